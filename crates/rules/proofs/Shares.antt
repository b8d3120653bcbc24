-- What work comes to in parts: each weight from 1 to 16 divides 720,720, so no part is lost. Assumes nothing.
use Rattle.std.proofs.Common.{◌≡◌, ℕ, ◌*◌, ◌/◌, ◌≤◌, sym, ap, ◌∙◌, mul-le-mul_right, mul_assoc, mul_comm, arith}
use native.Mathlib.Nat.{mul-div_left}
use Rattle.base.specs.Charge.{charged}
use Rattle.base.proofs.Exact.{exact}

module _ (w : ℕ) (lo : 1 ≤ w) (hi : w ≤ 16) where
  -- the weight divides 720,720
  pub share : 720720 / w * w ≡ 720720
  share = mul_comm (720720 / w) w ∙ exact w w lo hi ∙ ap (λ n. n / w) (mul_comm w 720720) ∙ mul-div_left 720720 lo

  -- d units are d times a unit's parts
  pub parts_is : (d : ℕ) → charged d w ≡ d * (720720 / w)
  parts_is d = sym (exact d w lo hi)

  -- so no part is lost
  pub parts_exact : (d : ℕ) → charged d w * w ≡ d * 720720
  parts_exact d = ap (λ n. n * w) (parts_is d) ∙ mul_assoc d (720720 / w) w ∙ ap (λ n. d * n) share

  -- more work is no fewer parts
  pub parts_mono : (d e : ℕ) → d ≤ e → charged d w ≤ charged e w
  parts_mono d e l = omega (arith, parts_is d, parts_is e, mul-le-mul_right (720720 / w) l)
