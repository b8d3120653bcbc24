use Rattle.std.proofs.Common.{◌<◌}
use Rattle.tree.proofs.Descending.{Left}
use Rattle.tree.proofs.queue.Queue.descend.Given as goal

abbrev pub invariant-loop : goal.invariant-loop
invariant-loop g l = (l.node < 64) × Left (g.T.TagStore.held l.self.store) l.from l.node l.counter
