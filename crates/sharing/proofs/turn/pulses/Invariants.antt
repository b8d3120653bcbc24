-- What pulses keep.
use Rattle.sharing.specs.Turns.{Keeps}
use Rattle.sharing.proofs.turn.pulses.Given as goal

abbrev pub invariant-loop : goal.invariant-loop
invariant-loop g l = Keeps g.I.Item l.grant l.initial.tree (g.S.Server.work l.initial.server) l.tree (g.S.Server.work l.server)
