-- Charging the classes of a path one by one.
use Rattle.std.proofs.Common.{◌≡◌, ℕ, suc, ◌+◌, ◌<◌, ◌≤◌, Bool, true, false, cond, ◌&&◌, ◌||◌, eqb, ltb, Some, None, Option, sym, refl, ap, ◌∙◌, subst, inl, inr, arith}
use mathlib.Core.Bool.{or-false}
use Rattle.std.proofs.lemmas.Bool.{and_parts, cases_eq, ltb-true, eq-eqb, ne_eqb, or_right}
use Rattle.rules.specs.Shape.{Shape, Sound}
use Rattle.tree.proofs.Paths.{above, to_come}
use Rattle.play.specs.Charges.{charged_at, more}
use Rattle.play.specs.declared.charges.Charges.{Charges}

-- the classes that are marked have d more
abbrev pub Charged : Charges → ℕ → Charges → (ℕ → Bool) → Type 0
Charged b d c on = (k : ℕ) → charged_at c k ≡ cond (on k) (more (charged_at b k) d) (charged_at b k)

-- one class more that was not marked
pub charging_more : (b m c : Charges) (d : ℕ) (on : ℕ → Bool) (x : ℕ) → on x ≡ false → Charged b d m on → Charged m d c (eqb x) → Charged b d c (λ j. on j || eqb x j)
charging_more b m c d on x off was one k = elim (cases_eq x k) [
  | inl e ↦
      one k
      ∙ ap (λ q. cond q (more (charged_at m k) d) (charged_at m k)) (eq-eqb x k e)
      ∙ ap (λ n. more n d) (was k ∙ ap (λ q. cond q (more (charged_at b k) d) (charged_at b k)) (subst (λ j. on j ≡ false) e off))
      ∙ sym (ap (λ q. cond q (more (charged_at b k) d) (charged_at b k)) (or_right (on k) (eqb x k) (eq-eqb x k e)))
  | inr n ↦
      one k
      ∙ ap (λ q. cond q (more (charged_at m k) d) (charged_at m k)) (ne_eqb x k n)
      ∙ was k
      ∙ ap (λ q. cond q (more (charged_at b k) d) (charged_at b k)) (sym (ap (λ q. on k || q) (ne_eqb x k n) ∙ or-false (on k)))
]

-- class numbers fall on the way up, from wherever it begins
pub way_falls : {t : Shape} → Sound t → (next : Option ℕ) (c : ℕ) → next ≡ Some c → (next' : Option ℕ) → next' ≡ above t c → to_come next' < to_come next
way_falls {t} ok next c is next' e = subst (λ o. to_come next' < to_come o) (sym is) (subst (λ o. to_come o < suc c) (sym e) (by (ltb 0 c && ltb c t.count) refl))
  where
    by : (b : Bool) → (ltb 0 c && ltb c t.count) ≡ b → to_come (cond b (Some (t.parent c)) None) < suc c
    by true y = omega (arith, ok.earlier c (ltb-true 0 c (and_parts (ltb 0 c) (ltb c t.count) y).0))
    by false n = omega arith

-- a sum that stays far below 64 bits is exact
pub more_is : (b : Bool) (n d x : ℕ) → cond b d 0 + n ≤ 1000000000000 → x ≡ cond b (more n d) n → x ≡ cond b d 0 + n
more_is true n d x le e = omega (arith, e)
more_is false n d x le e = omega (arith, e)
