-- The phase of a tree as the rules have it.
use Rattle.std.specs.Prelude.{Some, None, Option}
use Rattle.rules.specs.State.{Turn, turn_of}
use Rattle.tree.specs.declared.phase.Phase.{Phase}
use Rattle.tree.specs.declared.phase.Phase.TheVariants.{Free, Open}

-- the open turn, or none
abbrev pub turn : Phase → Option Turn
turn Free = None
turn (Open leaf cost done) = Some (record { leaf = leaf; cost = cost; done = done })

-- the open turn, or a turn of nothing
abbrev pub serving : Phase → Turn
serving p = turn_of (turn p)
