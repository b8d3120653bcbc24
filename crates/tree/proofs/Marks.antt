-- Tests of marks.
use Rattle.std.proofs.Common.{◌≡◌, ℕ, Bool, true, false, ◌&&◌, eqb, refl, arith}
use Rattle.std.proofs.lemmas.Bool.Decides.{nat_tests}

-- what is not marked fails each test of marks
pub unmarked : (a b : Bool) → (a && false && b) ≡ false
unmarked true b = refl
unmarked false b = refl

pub eqb_sym : (a b : ℕ) → eqb a b ≡ eqb b a
eqb_sym a b = grind (arith, nat_tests)
