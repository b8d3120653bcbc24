-- Which classes are backlogged. Assumes nothing.
use Rattle.std.proofs.Common.{◌≡◌, ℕ, ◌<◌, ◌≤◌, true, false, ◌&&◌, ltb, subst, arith}
use Rattle.std.proofs.lemmas.Bool.{ltb-true, lt-ltb, and_parts, and_from, both_ways}
use Rattle.rules.specs.Shape.{Shape, Sound, under, child, leaf}
use Rattle.rules.specs.State.{backlogged_by}
use Rattle.rules.proofs.Tests.{any_decides}
use Rattle.rules.proofs.Tree.{Below, below_trans, under_below, below_under, below_le, parent_above, on_the_way}

-- a leaf at or below k whose lane holds an item
pub record Queue (t : Shape) (q : ℕ → ℕ) (k : ℕ) : Type 0 where
  pub lane : ℕ
  pub known : lane < t.count
  pub below : Below t k lane
  pub some : 0 < q lane

module _ {t : Shape} (ok : Sound t) where
  module _ (q : ℕ → ℕ) (k : ℕ) where
    -- a backlogged class has such a lane
    pub busy_at : backlogged_by t q k ≡ true → Queue t q k
    busy_at b =
        let (l, lt, e) = (any_decides (λ l. under t k l && ltb 0 (q l)) t.count).0 b in
        let (u, some) = and_parts _ _ e in
        record { lane = l; known = lt; below = under_below ok u; some = ltb-true _ _ some }

    -- and a class with one is backlogged
    pub busy_from : Queue t q k → backlogged_by t q k ≡ true
    busy_from w = (any_decides (λ l. under t k l && ltb 0 (q l)) t.count).1
        (w.lane, w.known, and_from _ _ (below_under ok w.known w.below) (lt-ltb _ _ w.some))

    -- it is a class of the tree
    pub busy_known : backlogged_by t q k ≡ true → k < t.count
    busy_known b = let w = busy_at b in omega (arith, below_le ok w.below, w.known)

  -- a class is backlogged with counts q if it is so with counts r that are nowhere larger below it
  pub busy_more : (q r : ℕ → ℕ) (k : ℕ) → ((l : ℕ) → l < t.count → Below t k l → r l ≤ q l) → backlogged_by t r k ≡ true → backlogged_by t q k ≡ true
  busy_more q r k le b =
      let w = busy_at r k b in
      busy_from q k (record { lane = w.lane; known = w.known; below = w.below; some = omega (arith, le w.lane w.known w.below, w.some) })

  module _ (q : ℕ → ℕ) where
    -- what is above a backlogged class is backlogged
    pub busy_above : {k l : ℕ} → Below t k l → backlogged_by t q l ≡ true → backlogged_by t q k ≡ true
    busy_above {k} {l} x b = let w = busy_at q l b in busy_from q k (record { lane = w.lane; known = w.known; below = below_trans x w.below; some = w.some })

    -- so is the parent of a backlogged class
    pub busy_parent : (k : ℕ) → backlogged_by t q k ≡ true → backlogged_by t q (t.parent k) ≡ true
    busy_parent k = busy_above (parent_above ok k)

    -- where only leaves hold items, a backlogged node that is no leaf has a backlogged child
    pub busy_child : ((l : ℕ) → 0 < q l → leaf t l ≡ true) → (p : ℕ) → backlogged_by t q p ≡ true → leaf t p ≡ false → (c : ℕ) × (child t p c ≡ true) × (backlogged_by t q c ≡ true)
    busy_child leaves p b inner =
        let w = busy_at q p b in
        let (c, h, x) = on_the_way ok (λ e. both_ways _ inner (subst (λ l. leaf t l ≡ true) e (leaves w.lane w.some))) w.below in
        (c, h, busy_from q c (record { lane = w.lane; known = w.known; below = x; some = w.some }))
