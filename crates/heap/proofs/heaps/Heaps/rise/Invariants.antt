use Rattle.std.proofs.Common.{◌<◌}
use Rattle.heap.specs.Keys.{count, keys, Reordered}
use Rattle.heap.specs.Order.{ButParent}
use Rattle.heap.proofs.heaps.Heaps.rise.Given as goal

abbrev pub invariant-loop-parent : goal.invariant-loop-parent
invariant-loop-parent l = (l.place < count l.self l.group.value) × Reordered l.initial.self l.self l.group.value × ButParent (keys l.self l.group.value) (count l.self l.group.value) l.place

abbrev pub decreases-loop-parent : goal.decreases-loop-parent
decreases-loop-parent l = l.place
