-- The first line of a trace.
use Rattle.std.specs.Prelude.{◌≡◌, ℕ, List, ◌∷◌, ◌++◌, codes, Result, ◌≢◌}
use Rattle.base.specs.declared.refusal.Refusal.{Refusal}
use Rattle.base.specs.declared.refusal.Refusal.TheVariants.{BadFirstLine}
use Rattle.std.specs.Result as results
use Rattle.text.specs.declared.kind.Kind.{Kind}
use Rattle.text.specs.declared.kind.Kind.TheVariants.{Quantum, Block}
use Rattle.text.specs.declared.lines.Lines.{Lines}
use Rattle.text.specs.Texts.{rest}

-- its bytes, without the line end
abbrev pub title : Kind → List ℕ
title Quantum = codes "sfq1 quantum"
title Block = codes "sfq1 block"

-- no first line begins the bytes
abbrev pub Untitled : List ℕ → Type 0
Untitled bs = (k : Kind) (more : List ℕ) → title k ++ 10 ∷ more ≢ bs

-- the first line of the bytes names the kind, and the lines follow it
abbrev pub Titled : List ℕ → Kind × Lines → Type 0
Titled bs p = title p.0 ++ 10 ∷ rest p.1 ≡ bs

-- r is the kind of the first line with what follows it, or the refusal where there is no such line
abbrev pub Begins : List ℕ → Result (Kind × Lines) Refusal → Type 0
Begins bs r = results.MatchResult r (Titled bs) (λ e. (e ≡ BadFirstLine) × Untitled bs)
