-- Which inputs are right, and the first fault of any other.
use Rattle.std.specs.Prelude.{◌≡◌, ℕ, ◌+◌, ◌<◌, List, [], ◌∷◌, ◌++◌, length, Some, None, Ok, Err, Option, Result, MatchResult}
use Rattle.base.specs.declared.refusal.Refusal.{Refusal}
use Rattle.base.specs.declared.refusal.Refusal.TheVariants.{BadLine}
use Rattle.std.specs.List.{flat_map, AllByRecursion}
use Rattle.links.specs.Listed.{listed}
use Rattle.plans.specs.declared.fault.Fault.{Fault}
use Rattle.plans.specs.declared.fault.Wrong.{Wrong}
use Rattle.plans.specs.declared.fault.Wrong.TheVariants.{Refused, NoRate, NoItem}
use Rattle.plans.specs.declared.line.Line.{Line}
use Rattle.plans.specs.declared.read.Plan.{Plan}
use Rattle.plans.specs.Lines.{Misformed, Proper, written}
use Rattle.plans.specs.Readings.{Reading, start, linked, complete, taken}
use Rattle.plans.specs.Links.{New}

-- the bytes of some lines, each with its line end
abbrev pub ended : List Line → List ℕ
ended ls = flat_map (λ l. written l ++ 10 ∷ []) ls

-- what a line makes of what stands, if the lines before it were taken
abbrev pub next : Result Reading Refusal → Line → Result Reading Refusal
next (Ok q) l = taken q l
next (Err e) l = Err e

-- .. and some lines
abbrev pub onward : Result Reading Refusal → List Line → Result Reading Refusal
onward r [] = r
onward r (l ∷ ls) = onward (next r l) ls

-- the bytes begin with the lines, which set up q, and go on with the rest
pub record Begins (bs : List ℕ) (ls : List Line) (q : Reading) (rest : List ℕ) : Type 0 where
  pub proper : AllByRecursion Proper ls
  pub whole : ended ls ++ rest ≡ bs
  pub stands : onward (Ok start) ls ≡ Ok q

-- what is missing behind the last line
abbrev pub missing : Reading → Option Wrong
missing start = Some NoRate
missing (linked r os) = Some NoItem
missing (complete r os c) = None

abbrev pub at_line : List Line → Wrong → Fault
at_line ls w = record { line = length ls + 1; wrong = w }

-- the first fault, on the line behind some that are taken: no line at all, a line that is refused, or none that has to be there
pub data Told (bs : List ℕ) : Fault → Type 0 where
  misformed : (ls : List Line) (q : Reading) (rest : List ℕ) → Begins bs ls q rest → 0 < length rest → Misformed rest → Told bs (at_line ls (Refused BadLine))
  refused : (ls : List Line) (q : Reading) (l : Line) (more : List ℕ) (e : Refusal) → Begins bs ls q (written l ++ 10 ∷ more) → Proper l → taken q l ≡ Err e → Told bs (at_line ls (Refused e))
  unfinished : (ls : List Line) (q : Reading) (w : Wrong) → Begins bs ls q [] → missing q ≡ Some w → Told bs (at_line ls w)

-- the lines set up the link and the item
abbrev pub Planned : List ℕ → Plan → Type 0
Planned bs p = (ls : List Line) × Begins bs ls (complete p.link.below.rate (listed p.link.outages) p.cost) [] × New p.link

abbrev pub Judged : List ℕ → Result Plan Fault → Type 0
Judged bs r = MatchResult r (Planned bs) (Told bs)
