-- The lines of a trace after its first, and how each is written.
use Rattle.std.specs.Prelude.{◌≡◌, ℕ, List, [], ◌∷◌, Result, MatchResult, ◌≢◌}
use Rattle.std.specs.List.{join_with_byte}
use Rattle.base.specs.declared.refusal.Refusal.{Refusal}
use Rattle.base.specs.declared.refusal.Refusal.TheVariants.{BadLine}
use Rattle.text.specs.Words.{Word, Small, numeral}
use Rattle.text.specs.declared.line.Line.{Line}
use Rattle.text.specs.declared.line.Line.TheVariants.{Class, Link, Outage, Event as event}
use Rattle.text.specs.declared.line.Event.TheVariants.{Submit, Dispatch, Pulse, End, GiveUp}

-- the letter that a line begins with: c, l, o, and for the events a, d, p, e, g
abbrev pub initial : Line → ℕ
initial (Class n p w) = 99
initial (Link r) = 108
initial (Outage o k) = 111
initial (event (Submit n c)) = 97
initial (event Dispatch) = 100
initial (event Pulse) = 112
initial (event End) = 101
initial (event GiveUp) = 103

-- the words after it
abbrev pub fields : Line → List (List ℕ)
fields (Class n p w) = n.now ∷ p.now ∷ numeral w ∷ []
fields (Link r) = numeral r ∷ []
fields (Outage o k) = numeral o ∷ numeral k ∷ []
fields (event (Submit n c)) = n.now ∷ numeral c ∷ []
fields (event Dispatch) = []
fields (event Pulse) = []
fields (event End) = []
fields (event GiveUp) = []

-- words with one space between them
abbrev pub spaced : List (List ℕ) → List ℕ
spaced ws = join_with_byte 32 ws

-- the bytes of a line, without its line end
abbrev pub written : Line → List ℕ
written l = spaced ((initial l ∷ []) ∷ fields l)

-- the names are words, and the numbers fit
abbrev pub Proper : Line → Type 0
Proper (Class n p w) = Word n.now × Word p.now × Small w
Proper (Link r) = Small r
Proper (Outage o k) = Small o × Small k
Proper (event (Submit n c)) = Word n.now × Small c
Proper (event Dispatch) = Unit {0}
Proper (event Pulse) = Unit {0}
Proper (event End) = Unit {0}
Proper (event GiveUp) = Unit {0}

-- r is the proper line that the bytes write, or the refusal of bytes that write none
abbrev pub Reads : List ℕ → Result Line Refusal → Type 0
Reads bs r = MatchResult r (λ l. Proper l × (written l ≡ bs)) (λ e. (e ≡ BadLine) × ((l : Line) → Proper l → written l ≢ bs))
