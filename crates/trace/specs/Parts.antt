-- The parts of a trace, in their order.
use Rattle.std.specs.Prelude.{ℕ, Bool, not, ◌&&◌, ◌||◌, ◌==◌, nat_lt}
use Rattle.text.specs.declared.line.Line.{Line}
use Rattle.text.specs.declared.line.Line.TheVariants.{Class, Link as link, Outage, Event as event}
use Rattle.trace.specs.declared.part.Part.{Part}
use Rattle.trace.specs.declared.part.Part.TheVariants.{Classes, Link, Outages, Events}

abbrev pub part : Line → Part
part (Class n p w) = Classes
part (link r) = Link
part (Outage o k) = Outages
part (event e) = Events

-- the place of a part
abbrev pub place : Part → ℕ
place Classes = 0
place Link = 1
place Outages = 2
place Events = 3

-- a line of part p may stand after one of part q: q is no later part, and not both are the link's
abbrev pub may_follow : Part → Part → Bool
may_follow p q = nat_lt (place q) (place p) || (place q == place p && not (place p == 1))
