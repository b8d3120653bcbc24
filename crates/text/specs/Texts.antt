-- A text of lines.
use Rattle.std.specs.Prelude.{◌≡◌, ℕ, ◌<◌, List, [], ◌∷◌, ◌++◌, length, Option, Result, ◌≢◌}
use Rattle.base.specs.declared.refusal.Refusal.{Refusal}
use Rattle.base.specs.declared.refusal.Refusal.TheVariants.{BadLine}
use Rattle.std.specs.Option as options
use Rattle.std.specs.Result as results
use Rattle.std.specs.List.{flat_map}
use Rattle.text.specs.declared.line.Line.{Line}
use Rattle.text.specs.declared.lines.Lines.{Lines}
use Rattle.text.specs.Lines.{written, Proper}

-- the bytes of some lines, each with its line end
abbrev pub ended : List Line → List ℕ
ended ls = flat_map (λ l. written l ++ 10 ∷ []) ls

-- no line of a right form begins the bytes, of which there are some
pub record Faulty (bs : List ℕ) : Type 0 where
  pub some : 0 < length bs
  pub none : (l : Line) (more : List ℕ) → Proper l → written l ++ 10 ∷ more ≢ bs

-- the bytes of the lines that are still to come
abbrev pub rest : Lines → List ℕ
rest s = s.rest.now

-- what begins the bytes: a proper line and its line end, with more behind it; or the refusal of bytes that begin with no such line
abbrev pub Gives : List ℕ → List ℕ → Result Line Refusal → Type 0
Gives bs more r = results.MatchResult r (λ l. Proper l × (bs ≡ written l ++ 10 ∷ more)) (λ e. (e ≡ BadLine) × Faulty bs)

-- a step over a text: the end, or what begins it
abbrev pub Steps : Lines → Option (Result Line Refusal) → Lines → Type 0
Steps s r t = options.MatchOption r (rest s ≡ []) (Gives (rest s) (rest t))
