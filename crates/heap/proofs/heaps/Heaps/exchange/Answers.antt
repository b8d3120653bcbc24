use Rattle.std.proofs.Common.{length, get_or, set, swap, ap, ◌∙◌}
use Rattle.arrayvec.specs.ArrayVec.{with_items}
use Rattle.arrayvec.proofs.ArrayVecLemmas.{items-with_items}
use Rattle.heap.proofs.Kept.{Exchanges, row_read, exchange_leaves}
use Rattle.heap.proofs.heaps.Heaps.exchange.Goals as goal
use Rattle.heap.proofs.heaps.Heaps.exchange.Goals.{After-move_to-2}

leaves : (c : After-move_to-2) → Exchanges c.args.self.now c.move_to-2.new.self.rows (set c.args.self.now.heaps c.get.result (with_items (get_or c.args.self.now.heaps c.get.result c.index-self-get.result) c.swap.new.self)) c.args.group.value c.args.i c.args.j
leaves c =
    let s = c.args.self.now in
    let g = c.args.group.value in
    let was = get_or s.heaps c.get.result c.index-self-get.result in
    let read = row_read s g c.get.result c.get.ensures.value c.get.ensures.range c.index-self-get.result in
    let items = items-with_items was c.swap.new.self (c.swap.ensures.len ∙ ap length c.deref_mut.ensures.value) in
    exchange_leaves s g c.get.result c.args.i c.args.j c.get.ensures.value c.get.ensures.range c.requires.0 c.requires.1 (with_items was c.swap.new.self)
    (items ∙ (c.swap.ensures.after ∙ ap (λ r. swap r c.args.i c.args.j) (c.deref_mut.ensures.value ∙ read)))
    c.index-deref-j.result c.index-deref-i.result
    (c.index-deref-j.is ∙ ap (λ r. get_or r c.args.j c.index-deref-j.result) (c.deref-2.ensures.0 ∙ read))
    (c.index-deref-i.is ∙ ap (λ r. get_or r c.args.i c.index-deref-i.result) (c.deref.ensures.0 ∙ read))
    c.move_to.new.self.rows c.move_to-2.new.self.rows c.move_to.ensures c.move_to-2.ensures

pub invariant_of-self-clause-index : goal.invariant_of-self-clause-index
invariant_of-self-clause-index c = (leaves (goal.at.invariant_of-self-clause-index c).After-move_to-2).index

pub returns : goal.returns
returns c =
    let x = leaves (goal.at.returns c).After-move_to-2 in
    record { classes = x.cells; keys = x.ranks; reordered = record { others = x.others; pairs = x.pairs; lens = x.lens } }
