-- What work comes to at a weight.
use Rattle.std.specs.Prelude.{ℕ, ◌*◌, ◌/◌, cond, Some, None, Option, nat_lt}
use Rattle.base.specs.declared.units.Parts.{Parts}

-- d units at weight w, in parts: 720,720 is divided by each of 1 to 16
abbrev pub charged : ℕ → ℕ → ℕ
charged d w = d * 720720 / w

-- the same as the code answers it: none where the parts pass 64 bits
abbrev pub charge_of : ℕ → ℕ → Option Parts
charge_of d w = cond (nat_lt (charged d w) (18446744073709551616)) (Some (record { 0 = charged d w })) None
