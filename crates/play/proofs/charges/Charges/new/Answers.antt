use Rattle.std.proofs.Common.{◌≡◌, ℕ, zero, suc, get_or, replicate, refl, ap}
use Rattle.base.specs.declared.units.Units.{Units}
use Rattle.play.proofs.charges.Charges.new.Goals as goal

none_everywhere : (x : Units) (n k : ℕ) → get_or (replicate n x) k x ≡ x
none_everywhere x zero k = refl
none_everywhere x (suc n) zero = refl
none_everywhere x (suc n) (suc k) = none_everywhere x n k

pub returns : goal.returns
returns c = λ k. ap (λ x. x.0) (none_everywhere (record { 0 = 0 }) 64 k)
