-- Whom a dispatch goes to: the best child at each node, and the leaf at the end of that way. Assumes nothing.
use Rattle.std.proofs.Common.{◌≡◌, ℕ, zero, suc, ◌+◌, ◌<◌, ◌≤◌, true, false, ◌⊎◌, Some, None, Option, sym, refl, ap, ◌∙◌, subst, subst₂, inl, inr, arith}
use Rattle.std.proofs.lemmas.Bool.{ltb-true, ltb-false, and_parts, and_from, and_cases, cases_eq, both_ways, cond_both}
use Rattle.rules.specs.Shape.{Sound, climb, under, child, leaf}
use Rattle.rules.specs.State.{State, backlogged, better, best, next, descend, picked, or_zero}
use Rattle.rules.specs.Picks.{Best, Chosen}
use Rattle.rules.proofs.Tree.{Below, here, up, below_trans, under_below, below_under, below_le, root_above, parent_above, on_the_way, leaf_alone, inner_parent, child_decides}
use Rattle.rules.proofs.Backlog.{busy_at, busy_from, busy_known, busy_child}

module _ {I : Type 0} (s : State I) (node : ℕ) where
  -- the best below n, or none
  abbrev BestOf : ℕ → Option ℕ → Type 0
  BestOf n None = (k : ℕ) → k < n → child s.shape node k ≡ true → backlogged s k ≡ true → ⊥
  BestOf n (Some b) = Best s node n b

  -- the better of the best below n and class n is the best below n + 1
  better_is : (n : ℕ) (o : Option ℕ) → BestOf n o → BestOf (suc n) (better s node n o)
  better_is n None is = cond_both _ (Some n) None (BestOf (suc n))
      (λ e. let (kid, busy) = and_parts _ _ e in
      record {
        below = omega arith;
        kid = kid;
        busy = busy;
        least = λ k l c b. elim (cases_eq k n) [ inl same ↦ rw same (omega arith) | inr other ↦ absurd (is k (omega arith) c b) ];
        lowest = λ k l c b le. elim (cases_eq k n) [ inl same ↦ omega arith | inr other ↦ absurd (is k (omega arith) c b) ];
      })
      (λ e k l c b. elim (cases_eq k n) [ inl same ↦ both_ways _ e (and_from _ _ (rw same at c) (rw same at b)) | inr other ↦ is k (omega arith) c b ])
  better_is n (Some b) is = cond_both _ (Some n) (Some b) (BestOf (suc n))
      (λ e.
      let (fit, less) = and_parts _ _ e in
      let (kid, busy) = and_parts _ _ fit in
      let lt : s.tags.start n < s.tags.start b = ltb-true _ _ less in
      record {
        below = omega arith;
        kid = kid;
        busy = busy;
        least = λ k l c u. elim (cases_eq k n) [ inl same ↦ rw same (omega arith) | inr other ↦ omega (arith, is.least k (omega arith) c u) ];
        lowest = λ k l c u le. elim (cases_eq k n) [ inl same ↦ omega arith | inr other ↦ absurd (omega (arith, is.least k (omega arith) c u)) ];
      })
      (λ e.
      let no_less : (k : ℕ) → k ≡ n → child s.shape node k ≡ true → backlogged s k ≡ true → s.tags.start b ≤ s.tags.start k = λ k same c u.
      elim (and_cases _ _ e) [ inl unfit ↦ absurd (both_ways _ unfit (and_from _ _ (rw same at c) (rw same at u))) | inr slow ↦ rw same (ltb-false _ _ slow) ] in
      record {
        below = omega (arith, is.below);
        kid = is.kid;
        busy = is.busy;
        least = λ k l c u. elim (cases_eq k n) [ inl same ↦ no_less k same c u | inr other ↦ is.least k (omega arith) c u ];
        lowest = λ k l c u le. elim (cases_eq k n) [ inl same ↦ omega (arith, is.below) | inr other ↦ is.lowest k (omega arith) c u le ];
      })

  -- so the best is what its name says
  best_is : (n : ℕ) → BestOf n (best s node n)
  best_is zero = λ k l c b. omega arith
  best_is (suc n) = better_is n (best s node n) (best_is n)

  -- where the node has a backlogged child, the next class on the path is the best of them
  pub next_is : (k : ℕ) → k < s.shape.count → child s.shape node k ≡ true → backlogged s k ≡ true → Best s node s.shape.count (next s node)
  next_is k l c b = go (best s node s.shape.count) (best_is s.shape.count)
    where
      go : (o : Option ℕ) → BestOf s.shape.count o → Best s node s.shape.count (or_zero o)
      go None is = absurd (is k l c b)
      go (Some n) is = is

  -- and there is only one best
  pub best_only : (n b c : ℕ) → Best s node n b → Best s node n c → b ≡ c
  best_only n b c x y =
      let p = x.least c y.below y.kid y.busy in
      let q = y.least b x.below x.kid x.busy in
      omega (arith, x.lowest c y.below y.kid y.busy q, y.lowest b x.below x.kid x.busy p)

  -- so the best is the next class
  pub best_next : (b : ℕ) → Best s node s.shape.count b → next s node ≡ b
  best_next b x = best_only s.shape.count (next s node) b (next_is b x.below x.kid x.busy) x

module _ {I : Type 0} (s : State I) (ok : Sound s.shape) where
  -- each class on the path to one chosen leaf is on the path to another
  path_shared : (r r' : ℕ) → Chosen s r → Chosen s r' → (n k : ℕ) → k ≤ n → Below s.shape k r → Below s.shape k r'
  path_shared r r' x y zero k le b = let z : k ≡ 0 = omega arith in rw z (root_above ok y.known)
  path_shared r r' x y (suc n) k le b = elim (cases_eq k 0) [
    | inl z ↦ rw z (root_above ok y.known)
    | inr other ↦
        let pos : 0 < k = omega arith in
        let top = path_shared r r' x y n (s.shape.parent k) (omega (arith, ok.earlier k pos)) (below_trans (parent_above ok k) b) in
        let inner = inner_parent ok k pos (omega (arith, below_le ok b, x.known)) in
        let (c, h, d) = on_the_way ok (λ e. both_ways _ inner (subst (λ l. leaf s.shape l ≡ true) e y.ends)) top in
        let (c_pos, is) = (child_decides s.shape (s.shape.parent k) c).0 h in
        let one = best_next s (s.shape.parent k) k (x.best k pos (below_under ok x.known b)) in
        let two = best_next s (s.shape.parent c) c (y.best c c_pos (below_under ok y.known d)) in
        subst (λ l. Below s.shape l r') (sym two ∙ ap (next s) is ∙ one) d
  ]

  -- so only one leaf is chosen
  pub chosen_only : (r r' : ℕ) → Chosen s r → Chosen s r' → r ≡ r'
  chosen_only r r' x y = sym (leaf_alone ok y.known x.ends (path_shared r r' x y r r (omega arith) (here refl)))

-- where only leaves hold items
module _ {I : Type 0} (s : State I) (ok : Sound s.shape) (leaves : (l : ℕ) → 0 < s.queued l → leaf s.shape l ≡ true) where
  -- a backlogged node that is no leaf goes on to its best child
  pub goes_on : (p : ℕ) → backlogged s p ≡ true → leaf s.shape p ≡ false → Best s p s.shape.count (next s p)
  goes_on p b inner = let (c, h, busy) = busy_child ok s.queued leaves p b inner in next_is s p c (busy_known ok s.queued c busy) h busy

  -- a path from the node down to r: r is a backlogged leaf, and every class on the path is its parent's best
  record Descent (node r : ℕ) : Type 0 where
    ends : leaf s.shape r ≡ true
    busy : backlogged s r ≡ true
    path : (k : ℕ) → Below s.shape k r → Below s.shape k node ⊎ Best s (s.shape.parent k) s.shape.count k

  -- n steps down from a backlogged node that lies deep enough come to such a leaf
  descends : (n node : ℕ) → backlogged s node ≡ true → ((i : ℕ) → climb s.shape i node ≡ 0 → 8 ≤ i + n) → Descent node (descend s n node)
  descends zero node b deep = absurd (omega (arith, deep 7 (ok.shallow node (busy_known ok s.queued node b))))
  descends (suc n) node b deep = cond_both (leaf s.shape node) node (descend s n (next s node)) (Descent node)
      (λ e. record { ends = e; busy = b; path = λ k x. inl x })
      (λ e.
      let g = goes_on node b e in
      let (pos, is) = (child_decides s.shape node (next s node)).0 g.kid in
      let r = descends n (next s node) g.busy (deeper (next s node) pos is) in
      record { ends = r.ends; busy = r.busy; path = λ k x. elim (r.path k x) [ inl top ↦ through k (next s node) is g top | inr best ↦ inr best ] })
    where
      deeper : (k : ℕ) → 0 < k → s.shape.parent k ≡ node → (i : ℕ) → climb s.shape i k ≡ 0 → 8 ≤ i + n
      deeper k z p zero e = omega arith
      deeper k z p (suc i) e = omega (arith, deep i (subst (λ x. climb s.shape i x ≡ 0) p e))

      through : (k c : ℕ) → s.shape.parent c ≡ node → Best s node s.shape.count c → Below s.shape k c → Below s.shape k node ⊎ Best s (s.shape.parent k) s.shape.count k
      through k c is g (here z) = inr (subst₂ (λ p i. Best s p s.shape.count i) (sym is ∙ ap s.shape.parent z) z g)
      through k c is g (up pos x) = inl (subst (Below s.shape k) is x)

  module _ (b : backlogged s 0 ≡ true) where
    -- the leaf picked is the chosen one, and its lane holds an item
    pub picks : Chosen s (picked s) × (0 < s.queued (picked s))
    unfolding picked
    picks =
        let r = descends 8 0 b (λ i e. omega arith) in
        let w = busy_at ok s.queued (picked s) r.busy in (
          record {
            ends = r.ends;
            known = busy_known ok s.queued (picked s) r.busy;
            best = λ k z x. elim (r.path k (under_below ok x)) [ inl top ↦ absurd (omega (arith, below_le ok top)) | inr best ↦ best ];
          },
          subst (λ l. 0 < s.queued l) (leaf_alone ok w.known r.ends w.below) w.some,
        )

    -- every class on the path to it is backlogged
    pub path_busy : (k : ℕ) → under s.shape k (picked s) ≡ true → backlogged s k ≡ true
    path_busy k u = let (w, some) = picks in busy_from ok s.queued k (record { lane = picked s; known = w.known; below = under_below ok u; some = some })

    -- and is the one that its parent goes on to
    pub path_next : (k : ℕ) → 0 < k → under s.shape k (picked s) ≡ true → next s (s.shape.parent k) ≡ k
    path_next k z u = best_next s (s.shape.parent k) k (picks.0.best k z u)
