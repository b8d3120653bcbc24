-- Depths, and lists of children.
use Rattle.std.proofs.Common.{◌≡◌, ℕ, zero, suc, ◌<◌, ◌≤◌, true, false, cond, not, ◌&&◌, ◌||◌, eqb, ltb, is_some, Some, None, Option, sym, refl, ap, ◌∙◌, subst, inl, inr, arith, MatchOption}
use Rattle.std.proofs.lemmas.Bool.{cases_eq, cases_Bool, eq-eqb, ne_eqb, cond-true, cond-false}
use Rattle.rules.specs.Shape.{Shape, climb, child, leaf, any}
use Rattle.rules.proofs.Tests.{no_test}
use Rattle.rules.proofs.Tree.{child_decides}
use Rattle.classes.specs.Shapes.{steps, depth, child_below}

module _ (t : Shape) (node : ℕ) where
  some_any : (n : ℕ) → is_some (child_below t node n) ≡ any (child t node) n
  some_any zero = refl
  some_any (suc n) = elim (cases_Bool (child t node n)) [
    | inl e ↦ ap is_some (cond-true (child t node n) (Some n) _ e) ∙ sym (ap (λ b. b || any (child t node) n) e)
    | inr e ↦ ap is_some (cond-false (child t node n) (Some n) _ e) ∙ some_any n ∙ sym (ap (λ b. b || any (child t node) n) e)
  ]

  -- a node is a leaf exactly if the list of its children is empty
  pub leaf_is : not (is_some (child_below t node t.count)) ≡ leaf t node
  leaf_is = ap not (some_any t.count)

  -- below n the node has no child, or its last one is that
  abbrev pub Last : ℕ → Option ℕ → Type 0
  Last n o =
      MatchOption o
      ((k : ℕ) → k < n → child t node k ≡ false)
      (λ c. (c < n) × (child t node c ≡ true) × ((k : ℕ) → c < k → k < n → child t node k ≡ false))

  last_more : (n : ℕ) → child t node n ≡ false → (o : Option ℕ) → Last n o → Last (suc n) o
  last_more n e None none = λ k l. elim (cases_eq k n) [ inl z ↦ ap (child t node) z ∙ e | inr z ↦ none k (omega arith) ]
  last_more n e (Some c) (low, kid, none) = (omega arith, kid, λ k above l. elim (cases_eq k n) [ inl z ↦ ap (child t node) z ∙ e | inr z ↦ none k above (omega arith) ])

  -- what `child_below` says
  pub below_last : (n : ℕ) → Last n (child_below t node n)
  below_last zero = λ k l. absurd (omega arith)
  below_last (suc n) = elim (cases_Bool (child t node n)) [
    | inl e ↦ subst (Last (suc n)) (sym (cond-true (child t node n) (Some n) _ e)) (omega arith, e, λ k above l. absurd (omega arith))
    | inr e ↦ subst (Last (suc n)) (sym (cond-false (child t node n) (Some n) _ e)) (last_more n e _ (below_last n))
  ]

  -- where no class is the node's child, there is none
  pub below_none : (n : ℕ) → ((k : ℕ) → k < n → child t node k ≡ false) → child_below t node n ≡ None
  below_none zero none = refl
  below_none (suc n) none = cond-false (child t node n) (Some n) _ (none n (omega arith)) ∙ below_none n (λ k l. none k (omega arith))

-- each class but the root has its parent before it
module _ (t : Shape) (root : t.parent 0 ≡ 0) (earlier : (k : ℕ) → 0 < k → t.parent k < k) where
  -- a class has only later classes for children
  pub no_child : (node k : ℕ) → k ≤ node → child t node k ≡ false
  no_child node k l = no_test _ (λ e. let (pos, is) = (child_decides t node k).0 e in omega (arith, earlier k pos))

  climb_root : (n : ℕ) → climb t n 0 ≡ 0
  climb_root zero = refl
  climb_root (suc n) = ap (climb t n) root ∙ climb_root n

  steps_none : (f k : ℕ) → k ≡ 0 → steps t f k ≡ 0
  steps_none zero k z = refl
  steps_none (suc f) k z = cond-true (eqb k 0) 0 _ (eq-eqb k 0 z)

  steps_some : (f k : ℕ) → (k ≡ 0 → ⊥) → steps t (suc f) k ≡ suc (steps t f (t.parent k))
  steps_some f k z = cond-false (eqb k 0) 0 _ (ne_eqb k 0 z)

  -- counting further than the class's number adds nothing
  steps_same : (f g k : ℕ) → k ≤ f → k ≤ g → steps t f k ≡ steps t g k
  steps_same zero g k a b = sym (steps_none g k (omega arith))
  steps_same (suc f) zero k a b = steps_none (suc f) k (omega arith)
  steps_same (suc f) (suc g) k a b = elim (cases_eq k 0) [
    | inl z ↦ steps_none (suc f) k z ∙ sym (steps_none (suc g) k z)
    | inr z ↦
        let low = earlier k (omega arith) in
        steps_some f k z ∙ ap suc (steps_same f g (t.parent k) (omega arith) (omega arith)) ∙ sym (steps_some g k z)
  ]

  -- a class is one step below its parent
  pub depth_up : (k : ℕ) → 0 < k → depth t k ≡ suc (depth t (t.parent k))
  depth_up zero pos = absurd (omega arith)
  depth_up (suc k) pos =
      let low = earlier (suc k) pos in
      steps_some k (suc k) (λ z. omega arith) ∙ ap suc (steps_same k (t.parent (suc k)) (t.parent (suc k)) (omega arith) (omega arith))

  climb_steps : (f k : ℕ) → k ≤ f → (n : ℕ) → steps t f k ≤ n → climb t n k ≡ 0
  climb_steps zero k l n m = ap (climb t n) (let z : k ≡ 0 = omega arith in z) ∙ climb_root n
  climb_steps (suc f) k l n m = elim (cases_eq k 0) [
    | inl z ↦ ap (climb t n) z ∙ climb_root n
    | inr z ↦ let low = earlier k (omega arith) in up f k n (omega arith) (omega (arith, steps_some f k z)) (climb_steps f (t.parent k))
  ]
    where
      up : (f k n : ℕ) → t.parent k ≤ f → suc (steps t f (t.parent k)) ≤ n → (t.parent k ≤ f → (n : ℕ) → steps t f (t.parent k) ≤ n → climb t n (t.parent k) ≡ 0) → climb t n k ≡ 0
      up f k zero l m on = absurd (omega arith)
      up f k (suc n) l m on = on l n (omega arith)

  -- so many steps lead from a class to the root
  pub climb_depth : (n k : ℕ) → depth t k ≤ n → climb t n k ≡ 0
  climb_depth n k l = climb_steps k k (omega arith) n l

-- t has the parents of s below class n
module _ (s t : Shape) (n : ℕ) (root : s.parent 0 ≡ 0) (earlier : (k : ℕ) → 0 < k → s.parent k < k) (kept : (k : ℕ) → k < n → t.parent k ≡ s.parent k) where
  lower : (k : ℕ) → k < n → s.parent k < n
  lower k l = elim (cases_eq k 0) [ inl z ↦ subst (λ k. s.parent k < n) (sym z) (omega (arith, root)) | inr z ↦ omega (arith, earlier k (omega arith)) ]

  steps_kept : (f k : ℕ) → k < n → steps t f k ≡ steps s f k
  steps_kept zero k l = refl
  steps_kept (suc f) k l = ap (λ d. cond (eqb k 0) 0 (suc d)) (ap (steps t f) (kept k l) ∙ steps_kept f (s.parent k) (lower k l))

  -- and so their depths
  pub depth_kept : (k : ℕ) → k < n → depth t k ≡ depth s k
  depth_kept k l = steps_kept k k l

  -- and their children
  pub below_kept : (node m : ℕ) → m ≤ n → child_below t node m ≡ child_below s node m
  below_kept node zero l = refl
  below_kept node (suc m) l =
      ap (λ p. cond (ltb 0 m && eqb p node) (Some m) (child_below t node m)) (kept m (omega arith))
      ∙ ap (cond (child s node m) (Some m)) (below_kept node m (omega arith))
