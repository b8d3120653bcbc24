use Rattle.std.proofs.Common.{◌≡◌}
use Rattle.classes.specs.Tables.{shape_of}
use Rattle.tree.proofs.Advancing.{Advancing}
use Rattle.tree.proofs.queue.Queue.advance.Given as goal

abbrev pub invariant-loop-node : goal.invariant-loop-node
invariant-loop-node g l = record {
  table : l.self.table ≡ l.initial.self.table;
  kept : l.self.store ≡ l.initial.self.store;
  moved : Advancing (shape_of l.initial.self.table) l.leaf l.initial.self.loads l.self.loads l.class;
}

abbrev pub decreases-loop-node : goal.decreases-loop-node
decreases-loop-node g l = l.class
