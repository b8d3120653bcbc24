use Rattle.std.proofs.Common.{◌≡◌}
use Rattle.classes.specs.Tables.{shape_of}
use Rattle.tree.proofs.Paths.{to_come, Walked}
use Rattle.tree.proofs.Waking.{Woke}
use Rattle.tree.proofs.queue.Queue.wake.Given as goal

abbrev pub invariant-loop-next : goal.invariant-loop-next
invariant-loop-next g l = record {
  table : l.self.table ≡ l.initial.self.table;
  woke : Walked (shape_of l.initial.self.table) l.leaf (Woke (shape_of l.initial.self.table) l.initial.self.loads l.self.loads) l.next;
}

abbrev pub decreases-loop-next : goal.decreases-loop-next
decreases-loop-next g l = to_come l.next
