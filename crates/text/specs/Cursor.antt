-- What a reader of words has yet to read.
use Rattle.std.specs.Prelude.{◌≡◌, ℕ, List, [], ◌++◌, Some, None, Option, MatchOption, ◌==◌, ◌≢◌}
use Rattle.std.specs.Borrow.{Bor}
use Rattle.std.specs.List.{slice_split}
use Rattle.text.specs.declared.line.Line.{Line}
use Rattle.text.specs.declared.read.Words.{Words}
use Rattle.text.specs.Lines.{Proper, initial, fields}

-- the words that bytes hold between single spaces
abbrev pub splits : List ℕ → List (List ℕ)
splits bs = slice_split (λ b. b == 32) bs

abbrev pub after : Option (Bor (List ℕ)) → List (List ℕ)
after None = []
after (Some b) = splits b.now

-- the words that are left
abbrev pub left : Words → List (List ℕ)
left s = after s.rest

-- after the letter k, r is a line whose other words lead from before to behind; or no line is such
abbrev pub Formed : ℕ → List (List ℕ) → Option Line → List (List ℕ) → Type 0
Formed k before r behind =
    MatchOption r
    ((l : Line) (ws : List (List ℕ)) → Proper l → initial l ≡ k → before ≢ fields l ++ ws)
    (λ l. Proper l × (initial l ≡ k) × (before ≡ fields l ++ behind))
