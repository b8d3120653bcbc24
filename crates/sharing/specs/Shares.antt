-- What film and touch got together.
use Rattle.std.specs.Prelude.{ℕ, ◌+◌, ◌-◌, ◌*◌, ◌/◌, ◌^◌, min, cond, List, ◌++◌, ◌==◌, codes, decimal}
use Rattle.sharing.specs.declared.share.Shares.{Shares}

-- the turns of both
abbrev pub turns : Shares → ℕ
turns s = s.film.turns + s.touch.turns

-- the charges of both
abbrev pub charged : Shares → ℕ
charged s = s.film.charge.0 + s.touch.charge.0

-- how many thousandths a part is of a whole, rounded down, as 64 bits reckon it; none of nothing
abbrev pub thousandths : ℕ → ℕ → ℕ
thousandths part whole = cond (whole == 0) 0 (min (part * 1000) (2 ^ 64 - 1) / whole)

-- `film 60 turns, 960 units, 669 of 1000`
abbrev pub line_text : List ℕ → ℕ → ℕ → ℕ → List ℕ
line_text name turns units part =
    name ++ (codes " " ++ (decimal turns ++ (codes " turns, " ++ (decimal units ++ (codes " units, " ++ (decimal part ++ codes " of 1000\n"))))))
