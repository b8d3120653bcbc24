-- The words of a trace.
use Rattle.std.specs.Prelude.{ℕ, ◌<◌, ◌≤◌, ◌⊎◌, List, length, decimal, ◌≢◌}
use Rattle.std.specs.Int.{IsInRange}
use Rattle.std.specs.List.{AllByRecursion}

-- a to z or 0 to 9
abbrev pub Plain : ℕ → Type 0
Plain b = IsInRange 97 122 b ⊎ IsInRange 48 57 b

-- 1 to 10 such bytes
pub record Word (w : List ℕ) : Type 0 where
  pub some : 0 < length w
  pub short : length w ≤ 10
  pub plain : AllByRecursion Plain w

-- the decimal digits of n, with no needless zero in front
abbrev pub numeral : ℕ → List ℕ
numeral n = decimal n

-- the numbers that a trace may name
abbrev pub Small : ℕ → Type 0
Small n = n ≤ 4294967295

-- no byte of bs is b
abbrev pub Free : ℕ → List ℕ → Type 0
Free b bs = AllByRecursion (λ c. c ≢ b) bs
