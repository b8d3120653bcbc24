-- The tree alone, with g for its root, is the whole tree restricted to g's part: what it picks, and what each call does to its tags. Assumes nothing.
use Rattle.std.proofs.Common.{◌≡◌, ℕ, ◌+◌, ◌<◌, ◌≤◌, max, true, false, cond, not, ◌&&◌, ltb, length, Some, None, Option, sym, refl, ap, ◌∙◌, subst, ap₂, inl, inr, arith}
use Rattle.std.proofs.lemmas.Bool.{cases_eq, and_parts, and_left, and_right, cond-false, not-true}
use Rattle.base.specs.Charge.{charged}
use Rattle.rules.specs.Shape.{Shape, Sound, under, child, leaf}
use Rattle.rules.specs.State.{Turn, Tags, State, backlogged_by, backlogged, next, picked, stored}
use Rattle.rules.specs.Rules.{woken, advanced, reached, after_charge}
use Rattle.rules.specs.Alone.{rank, Inside}
use Rattle.rules.specs.Picks.{Best}
use Rattle.rules.proofs.Tests.{cond_same}
use Rattle.rules.proofs.Tree.{under_le}
use Rattle.rules.proofs.Picks.{best_next, goes_on, chosen_only, picks, path_busy}
use Rattle.rules.proofs.Subtree.{Part, rank_grows, rank_known, rank_root, root_inside, each_part, not_before, parent_inside, child_inside, under_part, child_part, leaf_part, busy_part, pos_part, away, sum_part}

-- the number of class k in the tree with g for its root
abbrev pub num : {I : Type 0} → State I → ℕ → ℕ → ℕ
num s g = rank s.shape g

-- the tags of the part are those of the whole
pub record Tagged (t : Shape) (g : ℕ) (x y : Tags) : Type 0 where
  pub start : (k : ℕ) → Inside t g k → (k ≡ g → ⊥) → y.start (rank t g k) ≡ x.start k
  pub finish : (k : ℕ) → Inside t g k → (k ≡ g → ⊥) → y.finish (rank t g k) ≡ x.finish k
  pub virtual : (k : ℕ) → Inside t g k → y.virtual (rank t g k) ≡ x.virtual k

-- of the open turn, what the tree alone has
abbrev pub own_phase : Shape → ℕ → Option Turn → Option Turn
own_phase t g None = None
own_phase t g (Some u) = cond (under t g u.leaf) (Some (record { leaf = rank t g u.leaf; cost = u.cost; done = u.done })) None

-- the tree alone has the tags, the items, the counts and the open turn of g's part
pub record Restricts {I : Type 0} (g : ℕ) (s a : State I) : Type 0 where
  pub tags : Tagged s.shape g s.tags a.tags
  pub lane : (k : ℕ) → Inside s.shape g k → a.lane (num s g k) ≡ s.lane k
  pub queued : (k : ℕ) → Inside s.shape g k → a.queued (num s g k) ≡ s.queued k
  pub phase : a.phase ≡ own_phase s.shape g s.phase
  pub meter : a.meter ≤ s.meter
  pub turns : a.turns ≤ s.turns

-- two trees that histories led to, the one g's part of the other
pub record Restriction {I : Type 0} (g : ℕ) (s a : State I) : Type 0 where
  pub part : Part s.shape g a.shape
  pub places : a.places ≡ s.places
  pub weight : (k : ℕ) → Inside s.shape g k → a.weight (num s g k) ≡ s.weight k
  pub leaves : (l : ℕ) → 0 < s.queued l → leaf s.shape l ≡ true
  pub leaves_alone : (l : ℕ) → 0 < a.queued l → leaf a.shape l ≡ true
  pub known_alone : (l : ℕ) → 0 < a.queued l → l < a.shape.count
  pub full_alone : (l : ℕ) → length (a.lane l) ≡ a.queued l
  pub restricts : Restricts g s a

module _ {I : Type 0} {g : ℕ} {s a : State I} (w : Restriction g s a) where
  -- the whole tree is sound
  tree : Sound s.shape
  tree = w.part.whole

  -- k is a class at or below g
  abbrev In : ℕ → Type 0
  In = Inside s.shape g

  -- the tags are the same
  tags : Tagged s.shape g s.tags a.tags
  tags = w.restricts.tags

  -- what is backlogged is the same
  busy : (k : ℕ) → In k → backlogged a (num s g k) ≡ backlogged s k
  busy = busy_part w.part s.queued a.queued w.restricts.queued

  -- so is the virtual time above
  up_virtual : (k : ℕ) → In k → (k ≡ g → ⊥) → a.tags.virtual (a.shape.parent (num s g k)) ≡ s.tags.virtual (s.shape.parent k)
  up_virtual k i apart = ap a.tags.virtual (w.part.parent k i apart) ∙ tags.virtual (s.shape.parent k) (parent_inside w.part k i apart)

  -- the shelf of the tree alone holds no more
  pub stored_part : stored a ≤ stored s
  unfolding stored
  stored_part = sum_part w.part (λ l. length (s.lane l)) (λ l. length (a.lane l)) (λ k i. ap length (w.restricts.lane k i)) past 64 tree.few
    where
      past : (j : ℕ) → a.shape.count ≤ j → length (a.lane j) ≡ 0
      past j le = elim (cases_eq (a.queued j) 0) [ inl e ↦ omega (arith, w.full_alone j) | inr some ↦ absurd (omega (arith, w.known_alone j (omega arith))) ]

  -- the best child of a node is the same
  best_part : (k n : ℕ) → In k → Best s k s.shape.count n → Best a (num s g k) a.shape.count (num s g n) × In n × (n ≡ g → ⊥)
  best_part k n i best =
      let (j, apart) = child_inside w.part k n i best.below best.kid in (
        record {
          below = rank_known w.part n j;
          kid = child_part w.part k n i j ∙ best.kid;
          busy = busy n j ∙ best.busy;
          least = each_part w.part _ (λ y jy c u. let (child, work, here) = told y jy c u in omega (arith, best.least y jy.0 child work, tags.start n j apart, tags.start y jy here));
          lowest = each_part w.part _ (λ y jy c u le. let (child, work, here) = told y jy c u in rank_grows s.shape g n y (best.lowest y jy.0 child work (omega (arith, tags.start n j apart, tags.start y jy here))));
        },
        j,
        apart,
      )
    where
      -- what the tree alone says of a child, the whole tree says too
      told : (y : ℕ) → In y → child a.shape (num s g k) (num s g y) ≡ true → backlogged a (num s g y) ≡ true → (child s.shape k y ≡ true) × (backlogged s y ≡ true) × (y ≡ g → ⊥)
      told y jy c u = let kid = sym (child_part w.part k y i jy) ∙ c in (kid, sym (busy y jy) ∙ u, (child_inside w.part k y i jy.0 kid).1)

  -- a dispatch that serves a leaf below g serves the same leaf in the tree alone
  module _ (b : backlogged s 0 ≡ true) where
    -- the leaf picked is a class of the tree
    pub picked_known : picked s < s.shape.count
    picked_known = (picks s tree w.leaves b).0.known

    -- the tree alone has work if that leaf is below g
    pub alone_busy : under s.shape g (picked s) ≡ true → backlogged a 0 ≡ true
    alone_busy on = ap (backlogged a) (sym (rank_root w.part)) ∙ busy g (root_inside w.part) ∙ path_busy s tree w.leaves b g on

    -- and then it picks the same leaf
    pub picked_part : under s.shape g (picked s) ≡ true → picked a ≡ num s g (picked s)
    picked_part on = chosen_only a w.part.alone (picked a) (num s g (picked s)) (picks a w.part.alone w.leaves_alone (alone_busy on)).0 (record {
      ends = leaf_part w.part (picked s) (picked_known, on) ∙ (picks s tree w.leaves b).0.ends;
      known = rank_known w.part (picked s) (picked_known, on);
      best = λ j pos u. each_part w.part (λ j. 0 < j → under a.shape j (num s g (picked s)) ≡ true → Best a (a.shape.parent j) a.shape.count j) on_path j
          (omega (arith, under_le w.part.alone j (num s g (picked s)) u, rank_known w.part (picked s) (picked_known, on))) pos u;
    })
      where
        on_path : (k : ℕ) → In k → 0 < num s g k → under a.shape (num s g k) (num s g (picked s)) ≡ true → Best a (a.shape.parent (num s g k)) a.shape.count (num s g k)
        on_path k i pos u =
            let apart : k ≡ g → ⊥ = (λ e. omega (arith, ap (num s g) e, rank_root w.part)) in
            let z : 0 < k = omega (arith, not_before tree w.part.known k i.1) in
            let best = (picks s tree w.leaves b).0.best k z (sym (under_part w.part k (picked s) i (picked_known, on)) ∙ u) in
            subst (λ p. Best a p a.shape.count (num s g k)) (sym (w.part.parent k i apart)) (best_part (s.shape.parent k) k (parent_inside w.part k i apart) best).0

    -- the virtual times on a dispatch's way
    pub advanced_own : under s.shape g (picked s) ≡ true → Tagged s.shape g (advanced s) (advanced a)
    advanced_own on = record {
      start = tags.start;
      finish = tags.finish;
      virtual = λ k i. cond_same
          (ap₂ ◌&&◌ (ap (under a.shape (num s g k)) (picked_part on) ∙ under_part w.part k (picked s) i (picked_known, on)) (ap not (leaf_part w.part k i)))
          (λ z.
          let (above, inner) = and_parts _ _ z in
          let (best, j, apart) = best_part k (next s k) i (goes_on s tree w.leaves k (path_busy s tree w.leaves b k above) (not-true _ inner)) in
          ap a.tags.start (best_next a (num s g k) (num s g (next s k)) best) ∙ tags.start (next s k) j apart)
          (λ _. tags.virtual k i);
    }

    -- a dispatch elsewhere moves no virtual time here
    pub advanced_other : under s.shape g (picked s) ≡ false → Tagged s.shape g (advanced s) a.tags
    advanced_other off = record {
      start = tags.start;
      finish = tags.finish;
      virtual = λ k i. tags.virtual k i ∙ sym (cond-false _ _ _ (and_left _ _ (away w.part k (picked s) i picked_known off)));
    }

  -- a class is on the path to c in the tree alone as in the whole
  on_part : (c : ℕ) → In c → (k : ℕ) → In k → (k ≡ g → ⊥) → ltb 0 (num s g k) && under a.shape (num s g k) (num s g c) ≡ ltb 0 k && under s.shape k c
  on_part c j k i apart = ap₂ ◌&&◌ (pos_part w.part k i apart) (under_part w.part k c i j)

  -- no class here is on the path to a class elsewhere
  off_part : (c : ℕ) → c < s.shape.count → under s.shape g c ≡ false → (k : ℕ) → In k → ltb 0 k && under s.shape k c ≡ false
  off_part c lt off k i = and_right _ _ (away w.part k c i lt off)

  -- waking below g
  pub woken_own : (c : ℕ) → In c → Tagged s.shape g (woken s c) (woken a (num s g c))
  woken_own c j = record {
    start = λ k i apart. cond_same (ap₂ ◌&&◌ (on_part c j k i apart) (ap not (busy k i))) (λ _. ap₂ max (up_virtual k i apart) (tags.finish k i apart)) (λ _. tags.start k i apart);
    finish = tags.finish;
    virtual = tags.virtual;
  }

  -- a submission elsewhere wakes no class here
  pub woken_other : (c : ℕ) → c < s.shape.count → under s.shape g c ≡ false → Tagged s.shape g (woken s c) a.tags
  woken_other c lt off = record {
    start = λ k i apart. tags.start k i apart ∙ sym (cond-false _ _ _ (and_left _ _ (off_part c lt off k i)));
    finish = tags.finish;
    virtual = tags.virtual;
  }

  -- a closing below g
  pub closed_own : (c d : ℕ) (queued queued' : ℕ → ℕ) → ((k : ℕ) → In k → queued' (num s g k) ≡ queued k) → In c → Tagged s.shape g (after_charge s c d queued) (after_charge a (num s g c) d queued')
  closed_own c d queued queued' same j = record {
    start = λ k i apart. cond_same (ap₂ ◌&&◌ (on_part c j k i apart) (still k i)) (λ _. ap₂ max (up_virtual k i apart) (reached_part k i apart)) (λ _. tags.start k i apart);
    finish = λ k i apart.
        let top = parent_inside w.part k i apart in
        let up = w.part.parent k i apart in
        cond_same (ap₂ ◌&&◌ (ap₂ ◌&&◌ (pos_part w.part k i apart) (ap (λ p. under a.shape p (num s g c)) up ∙ under_part w.part (s.shape.parent k) c top j)) (ap not (ap (backlogged_by a.shape queued') up ∙ still (s.shape.parent k) top)))
        (λ _. refl) (λ _. reached_part k i apart);
    virtual = λ k i. cond_same (ap₂ ◌&&◌ (under_part w.part k c i j) (ap not (still k i))) (λ _. refl) (λ _. tags.virtual k i);
  }
    where
      still : (k : ℕ) → In k → backlogged_by a.shape queued' (num s g k) ≡ backlogged_by s.shape queued k
      still = busy_part w.part queued queued' same

      reached_part : (k : ℕ) → In k → (k ≡ g → ⊥) → reached a (num s g c) d (num s g k) ≡ reached s c d k
      reached_part k i apart = cond_same (on_part c j k i apart) (λ _. ap₂ (λ x v. x + charged d v) (tags.start k i apart) (w.weight k i)) (λ _. tags.finish k i apart)

  -- a closing elsewhere moves no tag here
  pub closed_other : (c d : ℕ) (queued : ℕ → ℕ) → c < s.shape.count → under s.shape g c ≡ false → Tagged s.shape g (after_charge s c d queued) a.tags
  closed_other c d queued lt off = record {
    start = λ k i apart. tags.start k i apart ∙ sym (cond-false _ _ _ (and_left _ _ (off_part c lt off k i)));
    finish = λ k i apart.
        let away-up = away w.part (s.shape.parent k) c (parent_inside w.part k i apart) lt off in
        tags.finish k i apart ∙ sym (cond-false _ _ _ (and_left _ _ (and_right _ _ away-up)) ∙ cond-false _ _ _ (off_part c lt off k i));
    virtual = λ k i. tags.virtual k i ∙ sym (cond-false _ _ _ (and_left _ _ (away w.part k c i lt off)));
  }
