-- The lines of an input, and how each is written.
use Rattle.std.specs.Prelude.{◌≡◌, ℕ, List, ◌∷◌, ◌++◌, Option, MatchOption, ◌≢◌}
use Rattle.text.specs.Words.{Small, numeral}
use Rattle.plans.specs.declared.line.Line.{Line}
use Rattle.plans.specs.declared.line.Line.TheVariants.{Link, Outage, Item}

-- the letter that a line begins with: l, o or i
abbrev pub initial : Line → ℕ
initial (Link r) = 108
initial (Outage o n) = 111
initial (Item c) = 105

-- what stands behind the letter and a space
abbrev pub fields : Line → List ℕ
fields (Link r) = numeral r
fields (Outage o n) = numeral o ++ 32 ∷ numeral n
fields (Item c) = numeral c

-- the bytes of a line, without its line end
abbrev pub written : Line → List ℕ
written l = initial l ∷ 32 ∷ fields l

-- the numbers fit 32 bits
abbrev pub Proper : Line → Type 0
Proper (Link r) = Small r
Proper (Outage o n) = Small o × Small n
Proper (Item c) = Small c

-- r is the line with that letter and those bytes behind it; or there is none
abbrev pub Formed : ℕ → List ℕ → Option Line → Type 0
Formed k bs r = MatchOption r ((l : Line) → Proper l → initial l ≡ k → fields l ≢ bs) (λ l. Proper l × (initial l ≡ k) × (fields l ≡ bs))

-- r is the line that the bytes write; or there is none
abbrev pub Reads : List ℕ → Option Line → Type 0
Reads bs r = MatchOption r ((l : Line) → Proper l → written l ≢ bs) (λ l. Proper l × (written l ≡ bs))

-- no line of a right form begins the bytes
abbrev pub Misformed : List ℕ → Type 0
Misformed bs = (l : Line) (more : List ℕ) → Proper l → written l ++ 10 ∷ more ≢ bs
