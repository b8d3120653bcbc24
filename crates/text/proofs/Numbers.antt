-- What `parse` reads of a numeral, and of nothing else.
use Rattle.std.proofs.Common.{◌≡◌, ℕ, ◌<◌, ◌≤◌, List, length, get_or, Some, None, Ok, Err, IsUtf8, decimal, Option, Result, sym, refl, ap, ◌∙◌, subst, ⊎_elim, arith}
use Rattle.std.specs.Result.{result_ok}
use Rattle.std.specs.Str.Parse.{AllDigits, digits_value, ParsesUnsigned}
use Rattle.std.proofs.lemmas.Str.Parse.{IsNumeralModel, numerals_by_value, tells_digits, digit_at, parse_plain}
use Rattle.std.proofs.lemmas.Result.{OkIff-at_ok}
use Rattle.std.proofs.lemmas.Fmt.{parse-decimal, first_decimal, decimal_nonempty, decimal_digit, IsAscii-decimal, digits_decimal, decimal-digits_value}
use Rattle.std.proofs.lemmas.Str.{IsUtf8-from_ascii}
use Rattle.std.proofs.str.Laws.{order}
use Rattle.text.specs.Words.{numeral, Small}

pub own : IsNumeralModel (AllDigits 10) (digits_value 10)
own = numerals_by_value _ tells_digits

module _ (w : List ℕ) (n : ℕ) (small : Small n) (is : numeral n ≡ w) where
  pub is_utf8 : IsUtf8 w
  is_utf8 = subst IsUtf8 is (IsUtf8-from_ascii _ (IsAscii-decimal n (omega arith)))

  pub no_plus : get_or w 0 0 ≡ 43 → ⊥
  no_plus h =
      let d = digit_at (decimal n) 0 (digits_decimal own n (omega arith)) (decimal_nonempty n (omega arith)) in
      let e : get_or (decimal n) 0 0 ≡ 43 = ap (λ l. get_or l 0 0) is ∙ h in
      omega arith

  pub no_zero : get_or w 0 0 ≡ 48 → 1 < length w → ⊥
  no_zero h long =
      ⊎_elim
      (λ pos. let e : get_or (decimal n) 0 0 ≡ 48 = ap (λ l. get_or l 0 0) is ∙ h in omega (arith, first_decimal n pos (omega arith)))
      (λ none.
      let z : n ≡ 0 = omega arith in
      let one : length w ≡ 1 = ap length (sym is) ∙ ap length (decimal_digit n (omega arith)) in
      omega arith)
      (order 0 n)

  pub reads : {E : Type 0} (r : Result ℕ E) → ParsesUnsigned 32 10 w r → r ≡ Ok n
  reads r h = parse-decimal 32 n w r (omega arith) (omega arith) (sym is) h

pub read : {E : Type 0} (w : List ℕ) (r : Result ℕ E) (n : ℕ) → ParsesUnsigned 32 10 w r → r ≡ Ok n → (get_or w 0 0 ≡ 43 → ⊥) → (get_or w 0 0 ≡ 48 → length w ≤ 1) → Small n × (numeral n ≡ w)
read w r n h e plus zero =
    let got = OkIff-at_ok r _ _ n (parse_plain own 32 w r h plus) e in
    let fit = got.0.2 in
    (omega arith, ap decimal got.1 ∙ decimal-digits_value own w got.0.0 got.0.1 (λ z. omega (arith, zero z, got.0.1)) (omega arith))

-- what `.ok()` kept
pub ok_some : {T E : Type 0} (r : Result T E) (o : Option T) (x : T) → o ≡ result_ok r → o ≡ Some x → r ≡ Ok x
ok_some (Ok y) o x h e = cc
ok_some (Err y) o x h e = absurd (let z : ◌≡◌ {A = ℕ} 0 1 = cc in omega arith)

pub ok_none : {T E : Type 0} (r : Result T E) (o : Option T) → o ≡ result_ok r → o ≡ None → (d : E) × (r ≡ Err d)
ok_none (Ok y) o h e = absurd (let z : ◌≡◌ {A = ℕ} 0 1 = cc in omega arith)
ok_none (Err y) o h e = (y, refl)

pub ok_not_err : {T E : Type 0} (r : Result T E) (x : T) (d : E) → r ≡ Ok x → r ≡ Err d → ⊥
ok_not_err r x d e f = let z : ◌≡◌ {A = ℕ} 0 1 = cc in omega arith
