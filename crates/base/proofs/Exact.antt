-- Charges are exact: each weight from 1 to 16 divides 720,720. Assumes nothing.
use Rattle.std.proofs.Common.{◌≡◌, ℕ, zero, suc, ◌*◌, ◌/◌, ◌≤◌, Bool, true, ◌&&◌, eqb, sym, refl, ap, ◌∙◌, inl, inr, add-zero, mul_assoc, arith}
use Rattle.std.proofs.lemmas.Bool.{eqb-true, and_parts, cases_eq}
use Rattle.std.proofs.lemmas.Nat.{div-mul-add}
use Rattle.base.specs.Charge.{charged}

-- every number from 1 to n divides 720,720
abbrev divides : ℕ → Bool
divides zero = true
divides (suc n) = eqb (720720 / suc n * suc n) 720720 && divides n

divided : (n : ℕ) → divides n ≡ true → (w : ℕ) → 1 ≤ w → w ≤ n → 720720 / w * w ≡ 720720
divided zero t w low high = absurd (omega arith)
divided (suc n) t w low high =
    let both = and_parts (eqb (720720 / suc n * suc n) 720720) (divides n) t in
    elim (cases_eq w (suc n)) [
      | inl same ↦ ap (λ k. 720720 / k * k) same ∙ eqb-true _ _ both.0
      | inr other ↦ divided n both.1 w low (omega (arith, other))
    ]

-- so the quotient may be taken first, and no remainder is lost
pub exact : (d w : ℕ) → 1 ≤ w → w ≤ 16 → d * (720720 / w) ≡ charged d w
exact d w low high =
    let whole = divided 16 refl w low high in
    sym (div-mul-add (d * (720720 / w)) w 0 low) ∙ ap (λ n. n / w) (add-zero _ ∙ mul_assoc d (720720 / w) w ∙ ap (λ n. d * n) whole)
