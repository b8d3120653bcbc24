-- What each call answers, as the rules have it.
use Rattle.std.specs.Prelude.{Ok, Err, Result}
use Rattle.base.specs.declared.refusal.Refusal.{Refusal}
use Rattle.base.specs.declared.units.Units.{Units}
use Rattle.rules.specs.Rules.{Answer, refused, accepted, granted, worked, closed}
use Rattle.rules.specs.Rules as rules
use Rattle.tree.specs.declared.tree.Grant.{Grant}
use Rattle.tree.specs.declared.tree.Dispatch.{Dispatch}

-- a grant
abbrev pub grant_of : Grant → rules.Grant
grant_of g = record { house = g.house; turn = g.turn }

-- a submission
abbrev pub submitted : Result (Unit {0}) Refusal → Answer
submitted (Ok u) = accepted
submitted (Err e) = refused e

-- a dispatch
abbrev pub granted_by : Dispatch → Answer
granted_by d = granted (grant_of d.grant) d.class d.cost

abbrev pub dispatched : Result Dispatch Refusal → Answer
dispatched (Ok d) = granted_by d
dispatched (Err e) = refused e

-- a pulse
abbrev pub pulsed : Result Units Refusal → Answer
pulsed (Ok d) = worked d.0
pulsed (Err e) = refused e

-- an ending or a giving up
abbrev pub closed_by : Result Units (Refusal × Grant) → Answer
closed_by (Ok d) = closed d.0
closed_by (Err e) = refused e.0
