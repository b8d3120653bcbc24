-- Which bytes are a trace, and what is the first fault of others.
use Rattle.std.specs.Prelude.{◌≡◌, ℕ, ◌+◌, ◌<◌, ◌≤◌, true, List, [], ◌∷◌, ◌++◌, length, Some, None, Ok, Err, vec_items, Result}
use Rattle.base.specs.declared.refusal.Refusal.{Refusal}
use Rattle.base.specs.declared.refusal.Refusal.TheVariants.{TraceTooLong, BadFirstLine, BadLine, OutOfPlace}
use Rattle.classes.specs.declared.draft.Draft.{Draft}
use Rattle.links.specs.declared.fixed.FixedLink.{FixedLink}
use Rattle.links.specs.declared.interrupted.Interrupted.{Interrupted}
use Rattle.links.specs.Listed.{listed}
use Rattle.std.specs.List.{AllByRecursion}
use Rattle.text.specs.declared.kind.Kind.{Kind}
use Rattle.text.specs.declared.line.Line.{Line}
use Rattle.text.specs.Kinds.{title, Untitled}
use Rattle.text.specs.Lines.{written, Proper}
use Rattle.text.specs.Texts.{ended, Faulty}
use Rattle.trace.specs.declared.error.ReadError.{ReadError}
use Rattle.trace.specs.declared.error.ReadError.TheVariants.{Fault as faulty, NoMemory}
use Rattle.trace.specs.declared.fault.Fault.{Fault}
use Rattle.trace.specs.declared.trace.Trace.{Trace}
use Rattle.trace.specs.Faults.{fault}
use Rattle.trace.specs.Makings.{Bare, Leads, refusal, named_by, rate_of, outage_of, event_of}
use Rattle.trace.specs.Parts.{part, may_follow}

-- l may stand after m
abbrev pub After : Line → Line → Type 0
After l m = may_follow (part l) (part m) ≡ true

-- a line stands rightly behind others, which made the draft c: it has a right form, is in its part, and is not refused
pub record Fine (before : List Line) (c : Draft) (l : Line) : Type 0 where
  pub form : Proper l
  pub order : AllByRecursion (After l) before
  pub taken : refusal c.table (named_by outage_of before) l ≡ None

-- lines behind others stand rightly one after the other, and lead from the draft c to d
abbrev pub Takes : List Line → Draft → List Line → Draft → Type 0
Takes before c [] d = d ≡ c
Takes before c (l ∷ ls) d = Fine before c l × ((b : Draft) × Leads c l b × Takes (before ++ l ∷ []) b ls d)

-- a text is right up to rest: a first line and the lines ls, which make the draft d
pub record Right (bs : List ℕ) (k : Kind) (ls : List Line) (rest : List ℕ) (d : Draft) : Type 0 where
  pub short : length bs ≤ 32768
  pub whole : title k ++ 10 ∷ (ended ls ++ rest) ≡ bs
  pub root : Draft
  pub bare : Bare root
  pub taken : Takes [] root ls d

-- what is wrong with the line that begins rest, behind lines that made the draft d: its form, or else its part, or else
-- what the tree or the link says
pub data Wrong (ls : List Line) (d : Draft) (rest : List ℕ) : Refusal → Type 0 where
  misformed : Faulty rest → Wrong ls d rest BadLine
  misplaced : (l : Line) (more : List ℕ) → rest ≡ written l ++ 10 ∷ more → Proper l → (AllByRecursion (After l) ls → ⊥) → Wrong ls d rest OutOfPlace
  refused : (l : Line) (more : List ℕ) (e : Refusal) → rest ≡ written l ++ 10 ∷ more → Proper l → AllByRecursion (After l) ls → refusal d.table (named_by outage_of ls) l ≡ Some e → Wrong ls d rest e

-- the first fault of a text. The line after the first and ls is number length ls + 2. A missing rate is told last, at the
-- last line
pub data Told (bs : List ℕ) : Fault → Type 0 where
  too_long : 32768 < length bs → Told bs (fault 0 TraceTooLong)
  untitled : length bs ≤ 32768 → Untitled bs → Told bs (fault 1 BadFirstLine)
  wrong : (k : Kind) (ls : List Line) (rest : List ℕ) (d : Draft) (e : Refusal) → Right bs k ls rest d → Wrong ls d rest e → Told bs (fault (length ls + 2) e)
  unrated : (k : Kind) (ls : List Line) (d : Draft) → Right bs k ls [] d → named_by rate_of ls ≡ [] → Told bs (fault (length ls + 1) OutOfPlace)

-- the link that the lines make: it has done and counted nothing
pub record Linked (ls : List Line) (x : Interrupted FixedLink) : Type 0 where
  pub rate : named_by rate_of ls ≡ x.below.rate ∷ []
  pub done : x.below.done.0 ≡ 0
  pub outages : listed x.outages ≡ named_by outage_of ls
  pub count : x.count ≡ 0

-- t is what the text writes
pub record Written (bs : List ℕ) (t : Trace) : Type 0 where
  pub lines : List Line
  pub right : Right bs t.kind lines [] t.draft
  pub linked : Linked lines t.link
  pub events : vec_items t.events ≡ named_by event_of lines

-- the text writes the trace t, and has no fault
pub record Accepted (bs : List ℕ) (t : Trace) : Type 0 where
  pub written : Written bs t
  pub faultless : (f : Fault) → Told bs f → ⊥

-- f is the first fault of the text: no other is, and the text writes no trace
pub record Faulted (bs : List ℕ) (f : Fault) : Type 0 where
  pub told : Told bs f
  pub only : (g : Fault) → Told bs g → g ≡ f
  pub none : (t : Trace) → Written bs t → ⊥

-- memory was wanting: the lines so far are right and have an event to be kept
pub record Wanting (bs : List ℕ) : Type 0 where
  pub kind : Kind
  pub lines : List Line
  pub rest : List ℕ
  pub draft : Draft
  pub right : Right bs kind lines rest draft
  pub some : 0 < length (named_by event_of lines)

-- r is the trace that the text writes, or its first fault, or memory was wanting
abbrev pub Judged : List ℕ → Result Trace ReadError → Type 0
Judged bs (Ok t) = Accepted bs t
Judged bs (Err (faulty f)) = Faulted bs f
Judged bs (Err (NoMemory e)) = Wanting bs
