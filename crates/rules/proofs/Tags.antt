-- What each call does to the tags of one class. Assumes nothing.
use Rattle.std.proofs.Common.{◌≡◌, ℕ, ◌+◌, ◌<◌, ◌≤◌, max, true, false, not, ◌&&◌, refl, ap, subst, inl, inr, arith}
use Rattle.std.proofs.lemmas.Bool.{both_ways, cases_Bool, cond_both, and_parts, not-true}
use Rattle.std.proofs.lemmas.Bool.Decides.{nat_tests}
use Rattle.base.specs.Charge.{charged}
use Rattle.rules.specs.Shape.{Sound, under, leaf}
use Rattle.rules.specs.State.{State, put, backlogged_by, backlogged, next, picked}
use Rattle.rules.specs.Rules.{woken, advanced, after_charge}
use Rattle.rules.proofs.Tests.{put_both}
use Rattle.rules.proofs.Tree.{below_under, under_parent, under_le, child_decides, inner_parent}
use Rattle.rules.proofs.Backlog.{busy_more, busy_known}
use Rattle.rules.proofs.Picks.{next_is, goes_on, picks, path_busy, path_next}

module _ {I : Type 0} (s : State I) where
  -- submission to c: a backlogged class keeps its start tag
  pub awake_keeps : (c k : ℕ) → backlogged s k ≡ true → (woken s c).start k ≡ s.tags.start k
  awake_keeps c k b = grind (arith, nat_tests)

  -- a class that the submission makes backlogged wakes
  pub wakes : Sound s.shape → (c x k : ℕ) → 0 < k → backlogged s k ≡ false → backlogged_by s.shape (put s.queued c x) k ≡ true → (woken s c).start k ≡ max (s.tags.virtual (s.shape.parent k)) (s.tags.finish k)
  wakes ok c x k z b n = elim (cases_Bool (under s.shape k c)) [
    | inl on ↦ grind (arith, nat_tests)
    | inr off ↦ absurd (both_ways _ b (busy_more ok s.queued (put s.queued c x) k
        (λ l lt u. put_both s.queued c x l (λ i. i ≤ s.queued l) (λ e. absurd (both_ways _ off (subst (λ i. under s.shape k i ≡ true) e (below_under ok lt u)))) (λ _. omega arith)) n))
  ]

  -- the closing of a turn that served leaf c with d units, where `queued` counts the items afterwards
  module _ (c d : ℕ) (queued : ℕ → ℕ) where
    -- a node that is still backlogged keeps its virtual time
    pub virtual_stays : (k : ℕ) → backlogged_by s.shape queued k ≡ true → (after_charge s c d queued).virtual k ≡ s.tags.virtual k
    virtual_stays k b = grind (arith, nat_tests)

    -- so does a node off the path
    pub virtual_off : (k : ℕ) → under s.shape k c ≡ false → (after_charge s c d queued).virtual k ≡ s.tags.virtual k
    virtual_off k b = grind (arith, nat_tests)

    -- no virtual time grows
    pub virtual_falls : (k : ℕ) → (after_charge s c d queued).virtual k ≤ s.tags.virtual k
    virtual_falls k = grind (arith, nat_tests)

    -- a class of the path that is still backlogged moves on by its parts
    pub start_on : (k : ℕ) → 0 < k → under s.shape k c ≡ true → backlogged_by s.shape queued k ≡ true → s.tags.start k ≡ s.tags.virtual (s.shape.parent k) → (after_charge s c d queued).start k ≡ s.tags.start k + charged d (s.weight k)
    start_on k z u b e = grind (arith, nat_tests)

    -- a class off the path keeps its start tag
    pub start_off : (k : ℕ) → under s.shape k c ≡ false → (after_charge s c d queued).start k ≡ s.tags.start k
    start_off k u = grind (arith, nat_tests)

    -- a class of the path finishes behind its parts, while its parent is backlogged
    pub finish_on : (k : ℕ) → 0 < k → under s.shape k c ≡ true → backlogged_by s.shape queued (s.shape.parent k) ≡ true → (after_charge s c d queued).finish k ≡ s.tags.start k + charged d (s.weight k)
    finish_on k z u b = grind (arith, nat_tests)

    -- a class off the path then keeps its finish tag
    pub finish_off : (k : ℕ) → under s.shape k c ≡ false → backlogged_by s.shape queued (s.shape.parent k) ≡ true → (after_charge s c d queued).finish k ≡ s.tags.finish k
    finish_off k u b = grind (arith, nat_tests)

    -- so does a child of a node off the path
    pub finish_away : (k : ℕ) → under s.shape k c ≡ false → under s.shape (s.shape.parent k) c ≡ false → (after_charge s c d queued).finish k ≡ s.tags.finish k
    finish_away k u b = grind (arith, nat_tests)

    -- the children of a node of the path that rests finish at 0
    pub finish_rest : (k : ℕ) → 0 < k → under s.shape (s.shape.parent k) c ≡ true → backlogged_by s.shape queued (s.shape.parent k) ≡ false → (after_charge s c d queued).finish k ≡ 0
    finish_rest k z u b = grind (arith, nat_tests)

-- dispatch, where only leaves hold items, something is backlogged, and no start tag is below the parent's virtual time
module _ {I : Type 0} (s : State I) (ok : Sound s.shape) (leaves : (l : ℕ) → 0 < s.queued l → leaf s.shape l ≡ true) (busy : backlogged s 0 ≡ true) where
  -- on the path each start tag is the parent's new virtual time
  pub virtual_path : (k : ℕ) → 0 < k → under s.shape k (picked s) ≡ true → s.tags.start k ≡ (advanced s).virtual (s.shape.parent k)
  virtual_path k z u =
      let known = (picks s ok leaves busy).0.known in
      let top = under_parent ok k (picked s) known u in
      let n : s.tags.start (next s (s.shape.parent k)) ≡ s.tags.start k = ap s.tags.start (path_next s ok leaves busy k z u) in
      let inner = inner_parent ok k z (omega (arith, under_le ok k (picked s) u, known)) in
      grind (arith, nat_tests)

  module _ (start_low : (k : ℕ) → 0 < k → backlogged s k ≡ true → s.tags.virtual (s.shape.parent k) ≤ s.tags.start k) where
    -- no virtual time falls
    pub virtual_grows : (p : ℕ) → s.tags.virtual p ≤ (advanced s).virtual p
    virtual_grows p = cond_both (under s.shape p (picked s) && not (leaf s.shape p)) (s.tags.start (next s p)) (s.tags.virtual p) (λ v. s.tags.virtual p ≤ v)
        (λ e.
        let (on, inner) = and_parts _ _ e in
        let b = goes_on s ok leaves p (path_busy s ok leaves busy p on) (not-true _ inner) in
        let (pos, is) = (child_decides s.shape p (next s p)).0 b.kid in
        rw is at (start_low (next s p) pos b.busy))
        (λ _. omega arith)

    -- no start tag comes to lie below
    pub virtual_low : (k : ℕ) → 0 < k → backlogged s k ≡ true → (advanced s).virtual (s.shape.parent k) ≤ s.tags.start k
    virtual_low k z b = cond_both (under s.shape (s.shape.parent k) (picked s) && not (leaf s.shape (s.shape.parent k))) (s.tags.start (next s (s.shape.parent k))) (s.tags.virtual (s.shape.parent k)) (λ v. v ≤ s.tags.start k)
        (λ _.
        let l = busy_known ok s.queued k b in
        let c = (child_decides s.shape (s.shape.parent k) k).1 (z, refl) in
        (next_is s (s.shape.parent k) k l c b).least k l c b)
        (λ _. start_low k z b)
