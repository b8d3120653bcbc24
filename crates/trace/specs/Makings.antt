-- What the lines of a trace make: its classes, its rate, its outages and its events.
use Rattle.std.specs.Prelude.{◌≡◌, ℕ, cond, ◌&&◌, List, Some, None, Option, nat_le}
use Rattle.base.specs.declared.refusal.Refusal.{Refusal}
use Rattle.base.specs.declared.refusal.Refusal.TheVariants.{BadRate, BadOutage}
use Rattle.classes.specs.declared.draft.Draft.{Draft}
use Rattle.classes.specs.declared.table.ClassTable.{ClassTable}
use Rattle.classes.specs.Additions.{addition, parent_number, Grown}
use Rattle.classes.specs.Rows.{row, Alone}
use Rattle.classes.specs.Tables.{class_count, named}
use Rattle.links.specs.declared.outage.Outage.{Outage as OneOutage}
use Rattle.links.specs.Outages.{fits, outage}
use Rattle.std.specs.Result.{result_err}
use Rattle.std.specs.Option.{option_to_list}
use Rattle.std.specs.List.{flat_map}
use Rattle.text.specs.declared.line.Event.{Event}
use Rattle.text.specs.declared.line.Line.{Line}
use Rattle.text.specs.declared.line.Line.TheVariants.{Class, Link, Outage, Event as event}

-- what one line names: a rate, an outage, an event
abbrev pub rate_of : Line → Option ℕ
rate_of (Class n p w) = None
rate_of (Link r) = Some r
rate_of (Outage o k) = None
rate_of (event e) = None

abbrev pub outage_of : Line → Option OneOutage
outage_of (Class n p w) = None
outage_of (Link r) = None
outage_of (Outage o k) = Some (outage o k)
outage_of (event e) = None

abbrev pub event_of : Line → Option Event
event_of (Class n p w) = None
event_of (Link r) = None
event_of (Outage o k) = None
event_of (event e) = Some e

-- .. and what lines name, in order
abbrev pub named_by : {X : Type 0} → (Line → Option X) → List Line → List X
named_by f ls = flat_map (λ l. option_to_list (f l)) ls

-- the number of a class that was looked for by its name; 64, which no class has, for a name that no class has
abbrev pub numbered : Option ℕ → ℕ
numbered p = parent_number p

abbrev pub parent_of : ClassTable → List ℕ → ℕ
parent_of t w = numbered (named t w)

-- the refusal that a line meets where the classes of t and the outages os stand
abbrev pub refusal : ClassTable → List OneOutage → Line → Option Refusal
refusal t os (Class n p w) = result_err (addition t (parent_of t p.now) w n.now)
refusal t os (Link r) = cond (nat_le 1 r && nat_le r 65535) None (Some BadRate)
refusal t os (Outage o k) = cond (fits os (outage o k)) None (Some BadOutage)
refusal t os (event e) = None

-- a draft of house 0 with the root alone
pub record Bare (d : Draft) : Type 0 where
  pub house : d.house ≡ 0
  pub count : class_count d.table ≡ 1
  pub rows : (k : ℕ) → Alone (row d.table.classes.items k)

-- the draft c becomes d by a class of name n, parent p and weight w
abbrev pub Grows : Draft → List ℕ → List ℕ → ℕ → Draft → Type 0
Grows c n p w d = (d.house ≡ c.house) × Grown c.table (parent_of c.table p) w n d.table

-- .. or by a line: only class lines alter it
abbrev pub Leads : Draft → Line → Draft → Type 0
Leads c (Class n p w) d = Grows c n.now p.now w d
Leads c (Link r) d = d ≡ c
Leads c (Outage o k) d = d ≡ c
Leads c (event e) d = d ≡ c
