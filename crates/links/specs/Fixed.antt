-- What a link of a fixed rate does at a draw.
use Rattle.std.specs.Prelude.{◌≡◌, ℕ, ◌+◌, ◌-◌, min}
use Rattle.links.specs.declared.fixed.FixedLink.{FixedLink}

-- at most its rate, cut to stay within its end
abbrev pub does : ℕ → ℕ → ℕ → ℕ
does rate work n = min (min n rate) (1000000000000000 - work)

-- asked for n units, s does d and is t afterwards
abbrev pub Fixes : FixedLink → ℕ → ℕ → FixedLink → Type 0
Fixes s n d t = (d ≡ does s.rate s.done.0 n) × (t.rate ≡ s.rate) × (t.done.0 ≡ s.done.0 + d)
