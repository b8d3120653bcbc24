use Rattle.std.proofs.Common.{◌-◌, ◌<◌}
use Rattle.heap.specs.Keys.{count, keys, Reordered}
use Rattle.heap.specs.Order.{ButChildren}
use Rattle.heap.proofs.heaps.Heaps.sink.Given as goal

abbrev pub invariant-loop-child : goal.invariant-loop-child
invariant-loop-child l = (l.place < count l.self l.group.value) × Reordered l.initial.self l.self l.group.value × ButChildren (keys l.self l.group.value) (count l.self l.group.value) l.place

abbrev pub decreases-loop-child : goal.decreases-loop-child
decreases-loop-child l = count l.self l.group.value - l.place
