-- What is known after some draws.
use Rattle.std.proofs.Common.{vec_items}
use Rattle.stalling.proofs.Played.{Sofar}
use Rattle.stalling.proofs.play.play.Given as goal

abbrev pub invariant-loop-number : goal.invariant-loop-number
invariant-loop-number g l = Sofar g.S.Server.draws l.initial.server l.cost (vec_items l.draws) l.server l.number l.idle l.left
