use Rattle.std.proofs.Common.{◌-◌, length, get_or, set, swap_remove, ap, ◌∙◌, arith}
use Rattle.heap.proofs.Kept.{Removes, row_read, remove_leaves}
use Rattle.heap.proofs.heaps.Heaps.remove_at.Goals as goal
use Rattle.heap.proofs.heaps.Heaps.remove_at.Goals.{After-set}

leaves : (c : After-set) → Removes c.args.self.now c.set.new.self.rows (set c.args.self.now.heaps c.get.result c.swap_remove-class.new.self) c.args.group.value c.args.place
leaves c =
    let s = c.args.self.now in
    let g = c.args.group.value in
    let i = c.args.place in
    let n = c.len.result - 1 in
    let a = c.swap_remove-class.result in
    let z = c.index-deref-len.result in
    let row = row_read s g c.get.result c.get.ensures.value c.get.ensures.range c.index-self-get.result in
    let full = c.len.ensures.value ∙ ap length row in
    let l = c.requires in
    remove_leaves s g c.get.result i n c.get.ensures.value c.get.ensures.range c.requires (omega arith) c.swap_remove-class.new.self a z
    (c.swap_remove-class.ensures.value ∙ ap (λ r. get_or r i a) row)
    (c.index-deref-len.is ∙ ap (λ r. get_or r n z) (c.deref.ensures.0 ∙ row))
    (c.swap_remove-class.ensures.items ∙ ap (λ r. swap_remove r i a) row)
    c.move_to.new.self.rows c.set.new.self.rows c.move_to.ensures c.set.ensures

pub invariant_of-self-clause-index : goal.invariant_of-self-clause-index
invariant_of-self-clause-index c = (leaves c).index

pub returns-clause-keys : goal.returns-clause-keys
returns-clause-keys c = (leaves (goal.at.returns-clause-keys c).After-set).ranks

pub returns-clause-others : goal.returns-clause-others
returns-clause-others c = (leaves (goal.at.returns-clause-others c).After-set).others
