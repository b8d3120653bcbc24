-- What the tree counts: the backlog of a class is what waits in the lanes at and below it. Assumes nothing.
use Rattle.std.proofs.Common.{◌≡◌, ℕ, ◌+◌, ◌<◌, ◌≤◌, Bool, true, false, cond, ◌&&◌, eqb, ltb, List, sym, refl, ◌∙◌, subst, inl, inr, arith}
use Rattle.std.proofs.lemmas.Bool.{cases_eq, cases_Bool, eq-eqb, ne_eqb, lt-ltb, ltb-true, and_parts, and_from, cond-true, cond-false, cond_both}
use Rattle.rules.specs.Shape.{Shape, Sound, under, leaf}
use Rattle.rules.specs.State.{sum, put, backlogged_by}
use Rattle.rules.proofs.Tests.{no_test, same_test, any_decides}
use Rattle.rules.proofs.Tree.{here, under_below, below_under, leaf_alone}
use Rattle.rules.proofs.Backlog.{busy_known}
use Rattle.tree.specs.Counts.{queued, waiting, Counted}
use Rattle.tree.specs.Loads.{load}
use Rattle.tree.specs.declared.load.Load.{Load}
use Rattle.tree.proofs.Sums.{sum_some, term_low, sum_low, sum_put}

-- a choice above 0 was made
some_cond : (b : Bool) (x : ℕ) → 0 < cond b x 0 → (b ≡ true) × (0 < x)
some_cond true x p = (refl, p)
some_cond false x p = absurd (omega arith)

module _ (t : Shape) (ls : List Load) where
  -- only leaves have items
  pub leaves : (l : ℕ) → 0 < queued t ls l → leaf t l ≡ true
  leaves l p = (some_cond (leaf t l) (load ls l).backlog p).0

  -- a leaf's lane has its backlog
  pub lane_backlog : (l : ℕ) → leaf t l ≡ true → queued t ls l ≡ (load ls l).backlog
  lane_backlog l e = cond-true (leaf t l) (load ls l).backlog 0 e

  -- no class counts more than 256 items a lane
  pub few_waiting : (k : ℕ) → t.count ≤ 64 → ((l : ℕ) → queued t ls l ≤ 256) → waiting t ls k ≤ 16384
  few_waiting k le few =
      let low : (l : ℕ) → cond (under t k l) (queued t ls l) 0 ≤ 256 = λ l. cond_both (under t k l) (queued t ls l) 0 (λ x. x ≤ 256) (λ _. few l) (λ _. omega arith) in
      omega (arith, sum_low (λ l. cond (under t k l) (queued t ls l) 0) t.count low)

  module _ (counted : Counted t ls) where
    -- a class is backlogged exactly if it counts an item
    pub busy_backlog : (k : ℕ) → backlogged_by t (queued t ls) k ≡ ltb 0 (load ls k).backlog
    busy_backlog k = same_test _ _
        (λ b.
        let (l, lt, e) = (any_decides (λ l. under t k l && ltb 0 (queued t ls l)) t.count).0 b in
        let (u, some) = and_parts (under t k l) (ltb 0 (queued t ls l)) e in
        let low = term_low (λ l. cond (under t k l) (queued t ls l) 0) t.count l lt in
        lt-ltb _ _ (omega (arith, counted k, low, cond-true (under t k l) (queued t ls l) 0 u, ltb-true 0 (queued t ls l) some)))
        (λ b.
        let (l, lt, q) = sum_some (λ l. cond (under t k l) (queued t ls l) 0) t.count (omega (arith, counted k, ltb-true 0 (load ls k).backlog b)) in
        let (u, some) = some_cond (under t k l) (queued t ls l) q in
        (any_decides (λ l. under t k l && ltb 0 (queued t ls l)) t.count).1 (l, lt, and_from _ _ u (lt-ltb _ _ some)))

    -- a lane that has items is that of a class of the tree
    pub queue_known : Sound t → (l : ℕ) → 0 < queued t ls l → l < t.count
    queue_known ok l p = busy_known ok (queued t ls) l (busy_backlog l ∙ lt-ltb _ _ (some_cond (leaf t l) (load ls l).backlog p).1)

    -- a class counts at least what is in a lane below it
    pub queued_low : (k c : ℕ) → c < t.count → under t k c ≡ true → queued t ls c ≤ (load ls k).backlog
    queued_low k c lt u = omega (arith, counted k, term_low (λ l. cond (under t k l) (queued t ls l) 0) t.count c lt, cond-true (under t k c) (queued t ls c) 0 u)

-- the lane of a leaf c comes to have a items, and each class above it as many more or fewer
module _ (t : Shape) (ok : Sound t) (ls ms : List Load) (c a : ℕ) (lt : c < t.count) (end : leaf t c ≡ true)
    (change : (k : ℕ) → (load ms k).backlog + cond (under t k c) (queued t ls c) 0 ≡ (load ls k).backlog + cond (under t k c) a 0) where
  -- the other lanes stay as they are
  pub queued_put : (k : ℕ) → queued t ms k ≡ put (queued t ls) c a k
  queued_put k = elim (cases_eq k c) [
    | inl e ↦ subst (λ k. queued t ms k ≡ put (queued t ls) c a k) (sym e)
        (let u = below_under ok lt (here refl) in
        let own = change c in
        let own' : (load ms c).backlog + queued t ls c ≡ (load ls c).backlog + a = rw u at own in
        lane_backlog t ms c end ∙ omega (arith, own', lane_backlog t ls c end) ∙ sym (cond-true (eqb c c) a (queued t ls c) (eq-eqb c c refl)))
    | inr off ↦ elim (cases_Bool (leaf t k)) [
      | inl ends ↦
          let u : under t k c ≡ false = no_test _ (λ u. off (sym (leaf_alone ok lt ends (under_below ok u)))) in
          let own = change k in
          let own' : (load ms k).backlog + 0 ≡ (load ls k).backlog + 0 = rw u at own in
          lane_backlog t ms k ends ∙ omega (arith, own', lane_backlog t ls k ends) ∙ sym (cond-false (eqb k c) a (queued t ls k) (ne_eqb k c off))
      | inr inner ↦ cond-false (leaf t k) (load ms k).backlog 0 inner ∙ sym (cond-false (eqb k c) a (queued t ls k) (ne_eqb k c off) ∙ cond-false (leaf t k) (load ls k).backlog 0 inner)
    ]
  ]

  -- and the counts are right again
  pub counted_put : Counted t ls → Counted t ms
  counted_put counted k =
      let same : waiting t ms k ≡ sum (λ l. cond (under t k l) (put (queued t ls) c a l) 0) t.count = λ i. sum (λ l. cond (under t k l) (queued_put l i) 0) t.count in
      omega (arith, same, sum_put (under t k) (queued t ls) c a t.count lt, counted k, change k)

  -- no lane has more than 256 items
  pub few_put : a ≤ 256 → ((k : ℕ) → queued t ls k ≤ 256) → (k : ℕ) → queued t ms k ≤ 256
  few_put low few k = subst (λ x. x ≤ 256) (sym (queued_put k)) (cond_both (eqb k c) a (queued t ls k) (λ x. x ≤ 256) (λ _. low) (λ _. few k))
