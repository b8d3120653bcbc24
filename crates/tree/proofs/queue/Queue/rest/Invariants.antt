use Rattle.std.proofs.Common.{◌≡◌}
use Rattle.classes.specs.Tables.{shape_of}
use Rattle.tree.proofs.Paths.{to_come}
use Rattle.tree.proofs.Resting.{Clearing}
use Rattle.tree.proofs.queue.Queue.rest.Given as goal

abbrev pub invariant-loop-next : goal.invariant-loop-next
invariant-loop-next g l = record {
  table : l.self.table ≡ l.initial.self.table;
  kept : l.self.store ≡ l.initial.self.store;
  cleared : Clearing (shape_of l.initial.self.table) l.node l.initial.self.loads l.self.loads l.next;
}

abbrev pub decreases-loop-next : goal.decreases-loop-next
decreases-loop-next g l = to_come l.next
