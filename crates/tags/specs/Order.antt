-- The order in which the least is taken: by tag, then by class.
use Rattle.std.specs.Prelude.{ℕ, ◌+◌, ◌*◌}
use Rattle.base.specs.declared.units.Parts.{Parts}

-- as one number, since a class is below 64
abbrev pub rank : Parts → ℕ → ℕ
rank t k = 64 * t.0 + k
