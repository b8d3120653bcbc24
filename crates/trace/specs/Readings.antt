-- What a reader of lines holds, line by line.
use Rattle.std.specs.Prelude.{◌≡◌, ℕ, true, false, ◌⊎◌, [], ◌++◌, Some, None, Ok, Err, Option, Result}
use Rattle.base.specs.declared.refusal.Refusal.{Refusal}
use Rattle.base.specs.declared.refusal.Refusal.TheVariants.{OutOfPlace}
use Rattle.classes.specs.declared.draft.Draft.{Draft}
use Rattle.links.specs.declared.fixed.FixedLink.{FixedLink}
use Rattle.links.specs.declared.interrupted.Interrupted.{Interrupted}
use Rattle.links.specs.Listed.{listed}
use Rattle.std.specs.Option as options
use Rattle.std.specs.Result as results
use Rattle.std.specs.Option.{option_to_list}
use Rattle.text.specs.declared.line.Event.{Event}
use Rattle.text.specs.declared.line.Line.{Line}
use Rattle.text.specs.declared.line.Line.TheVariants.{Class, Link, Outage, Event as event}
use Rattle.trace.specs.declared.fault.Misread.{Misread}
use Rattle.trace.specs.declared.part.Part.{Part}
use Rattle.trace.specs.declared.part.Part.TheVariants.{Classes}
use Rattle.trace.specs.declared.reading.Reading.{Reading}
use Rattle.trace.specs.Faults.{misread}
use Rattle.trace.specs.Makings.{Bare, Leads, refusal, event_of, outage_of}
use Rattle.trace.specs.Parts.{part, may_follow}

-- nothing was read
pub record Begun (s : Reading) : Type 0 where
  pub draft : Bare s.draft
  pub link : s.link ≡ None
  pub outages : listed s.outages ≡ []
  pub latest : s.latest ≡ Classes

-- the same at another part
abbrev pub follows : Reading → Part → Reading
follows s p = record { draft = s.draft; link = s.link; outages = s.outages; latest = p }

-- the link that does nothing yet at that rate
abbrev pub Idle : ℕ → FixedLink → Type 0
Idle r x = (x.rate ≡ r) × (x.done.0 ≡ 0)

-- the link after a line
abbrev pub Rates : Option FixedLink → Line → Option FixedLink → Type 0
Rates x (Class n p w) y = y ≡ x
Rates x (Link r) y = options.MatchOption y ⊥ (Idle r)
Rates x (Outage o k) y = y ≡ x
Rates x (event e) y = y ≡ x

-- the refusal that a line meets
abbrev pub refused : Reading → Line → Option Refusal
refused s l = refusal s.draft.table (listed s.outages) l

-- t is s after a line was taken
pub record Moved (s : Reading) (l : Line) (t : Reading) : Type 0 where
  pub latest : t.latest ≡ s.latest
  pub draft : Leads s.draft l t.draft
  pub link : Rates s.link l t.link
  pub outages : listed t.outages ≡ listed s.outages ++ option_to_list (outage_of l)

-- the answer is that refusal with its place
abbrev pub Blames : Option Refusal → Misread → Type 0
Blames o m = (o ≡ Some m.refusal) × (m ≡ misread m.refusal)

-- the line is taken and its event handed out, or it is refused
abbrev pub Taken : Reading → Line → Result (Option Event) Misread → Reading → Type 0
Taken s l r t = results.MatchResult r (λ o. (refused s l ≡ None) × (o ≡ event_of l) × Moved s l t) (Blames (refused s l))

-- a step: a line of a wrong form is refused, then one out of its part, then one that the tree or the link refuses
abbrev pub Stepped : Reading → Result Line Refusal → Result (Option Event) Misread → Reading → Type 0
Stepped s (Err e) r t = r ≡ Err (misread e)
Stepped s (Ok l) r t =
    ((may_follow (part l) s.latest ≡ true) × Taken (follows s (part l)) l r t) ⊎ ((may_follow (part l) s.latest ≡ false) × (r ≡ Err (misread OutOfPlace)))

-- the end: the draft, and a link of that rate with the outages; or the refusal, where no rate was told
abbrev pub Ends : Reading → Option FixedLink → Result (Draft × Interrupted FixedLink) Misread → Type 0
Ends s None r = r ≡ Err (misread OutOfPlace)
Ends s (Some x) r = r ≡ Ok (s.draft, record { below = x; outages = s.outages; count = 0 })

abbrev pub Finished : Reading → Result (Draft × Interrupted FixedLink) Misread → Type 0
Finished s r = Ends s s.link r
