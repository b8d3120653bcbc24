-- Classes by name.
use Rattle.std.proofs.Common.{◌≡◌, ℕ, zero, suc, ◌<◌, false, cond, List, Some, None, sym, refl, ap, ◌∙◌, inl, inr, arith}
use Rattle.std.specs.Str.{bytes_eq}
use Rattle.std.proofs.lemmas.Slice.Eq.{bytes_eq-Decides}
use Rattle.std.proofs.lemmas.Bool.{cases_eq, cases_Bool, both_ways, cond-true, cond-false}
use Rattle.rules.proofs.Tests.{no_test}
use Rattle.classes.specs.Rows.{name_at, named_below}
use Rattle.classes.specs.declared.class.Class.{Class}

-- class k has another name, or it has that name
other : (cs : List Class) (w : List ℕ) (k : ℕ) → (name_at cs k ≡ w → ⊥) → bytes_eq (name_at cs k) w ≡ false
other cs w k ne = no_test _ (λ e. ne ((bytes_eq-Decides (name_at cs k) w).0 e))

module _ (cs : List Class) (w : List ℕ) where
  -- no class below n has the name
  pub none_named : (n : ℕ) → ((k : ℕ) → k < n → name_at cs k ≡ w → ⊥) → named_below cs w n ≡ None
  none_named zero none = refl
  none_named (suc n) none = cond-false (bytes_eq (name_at cs n) w) (Some n) _ (other cs w n (none n (omega arith))) ∙ none_named n (λ k l. none k (omega arith))

  -- the converse
  pub named_none : (n : ℕ) → named_below cs w n ≡ None → (k : ℕ) → k < n → name_at cs k ≡ w → ⊥
  named_none zero e k l is = omega arith
  named_none (suc n) e k l is = elim (cases_Bool (bytes_eq (name_at cs n) w)) [
    | inl t ↦ let some = cond-true _ (Some n) (named_below cs w n) t in cc
    | inr f ↦ elim (cases_eq k n) [
      | inl z ↦ both_ways _ f ((bytes_eq-Decides (name_at cs n) w).1 (sym (ap (name_at cs) z) ∙ is))
      | inr z ↦ named_none n (sym (cond-false _ (Some n) (named_below cs w n) f) ∙ e) k (omega arith) is
    ]
  ]

  -- class c alone has the name
  pub one_named : (n c : ℕ) → c < n → name_at cs c ≡ w → ((k : ℕ) → k < n → name_at cs k ≡ w → k ≡ c) → named_below cs w n ≡ Some c
  one_named zero c l is only = absurd (omega arith)
  one_named (suc n) c l is only = elim (cases_Bool (bytes_eq (name_at cs n) w)) [
    | inl t ↦ cond-true _ (Some n) (named_below cs w n) t ∙ ap Some (only n (omega arith) ((bytes_eq-Decides (name_at cs n) w).0 t))
    | inr f ↦ elim (cases_eq c n) [
      | inl z ↦ absurd (both_ways _ f ((bytes_eq-Decides (name_at cs n) w).1 (sym (ap (name_at cs) z) ∙ is)))
      | inr z ↦ cond-false _ (Some n) (named_below cs w n) f ∙ one_named n c (omega arith) is (λ k l. only k (omega arith))
    ]
  ]

-- names that are kept are found as before
pub named_kept : (cs ds : List Class) (w : List ℕ) (n : ℕ) → ((k : ℕ) → k < n → name_at ds k ≡ name_at cs k) → named_below ds w n ≡ named_below cs w n
named_kept cs ds w zero kept = refl
named_kept cs ds w (suc n) kept =
    ap (λ v. cond (bytes_eq v w) (Some n) (named_below ds w n)) (kept n (omega arith))
    ∙ ap (cond (bytes_eq (name_at cs n) w) (Some n)) (named_kept cs ds w n (λ k l. kept k (omega arith)))
