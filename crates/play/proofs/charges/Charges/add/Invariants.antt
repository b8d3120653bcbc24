use Rattle.std.proofs.Common.{◌<◌}
use Rattle.classes.specs.Tables.{class_count, shape_of}
use Rattle.tree.proofs.Paths.{to_come, Walked}
use Rattle.play.proofs.Charging.{Charged}
use Rattle.play.proofs.charges.Charges.add.Given as goal

abbrev pub invariant-loop-next : goal.invariant-loop-next
invariant-loop-next g l = l.leaf < (class_count l.tree.queue.table) → Walked (shape_of l.tree.queue.table) l.leaf (Charged l.initial.self l.done.0 l.self) l.next

abbrev pub decreases-loop-next : goal.decreases-loop-next
decreases-loop-next g l = to_come l.next
