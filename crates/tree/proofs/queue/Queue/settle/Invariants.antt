use Rattle.std.proofs.Common.{◌≡◌}
use Rattle.classes.specs.Tables.{shape_of, weight_of}
use Rattle.tree.proofs.Paths.{to_come, Walked}
use Rattle.tree.proofs.Settling.{Settled}
use Rattle.tree.proofs.queue.Queue.settle.Given as goal

abbrev pub invariant-loop-next : goal.invariant-loop-next
invariant-loop-next g l = record {
  table : l.self.table ≡ l.initial.self.table;
  settled : Walked (shape_of l.initial.self.table) l.leaf
      (Settled (shape_of l.initial.self.table) (weight_of l.initial.self.table) l.closing.done l.closing.gone l.initial.self.loads l.self.loads)
      l.next;
}

abbrev pub decreases-loop-next : goal.decreases-loop-next
decreases-loop-next g l = to_come l.next
