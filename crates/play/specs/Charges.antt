-- What a table of charges holds.
use Rattle.std.specs.Prelude.{ℕ, ◌+◌, ◌-◌, ◌^◌, min, slice_index_or}
use Rattle.play.specs.declared.charges.Charges.{Charges}

-- the units charged to class k; 0 past the table
abbrev pub charged_at : Charges → ℕ → ℕ
charged_at c k = (slice_index_or c.units k (record { 0 = 0 })).0

-- d units more, no further than 64 bits go
abbrev pub more : ℕ → ℕ → ℕ
more n d = min (n + d) (2 ^ 64 - 1)
