use Rattle.std.proofs.Common.{◌∷◌, [], ◌++◌, length, set, refl, ap, ◌∙◌, arith}
use Rattle.heap.proofs.Kept.{Appends, heap_room, row_read, append_leaves}
use Rattle.heap.proofs.heaps.Heaps.append.Goals as goal
use Rattle.heap.proofs.heaps.Heaps.append.Goals.{After-set}

pub push-requires : goal.push-requires
push-requires c =
    let s = c.args.self.now in
    let g = c.args.group.value in
    let row = ap length (row_read s g c.get.result c.get.ensures.value c.get.ensures.range c.index-self-get.result) in
    let room = heap_room s g c.args.class c.requires in
    (omega arith, omega arith)

leaves : (c : After-set) → Appends c.args.self.now c.set.new.self.rows (set c.args.self.now.heaps c.get.result c.push.new.self)
leaves c =
    let s = c.args.self.now in
    let g = c.args.group.value in
    let k = c.args.class in
    let row = row_read s g c.get.result c.get.ensures.value c.get.ensures.range c.index-self-get.result in
    append_leaves s g c.get.result k _ c.get.ensures.value c.get.ensures.range refl c.len-place.ensures.value c.requires c.push.new.self (c.push.ensures.items ∙ ap (λ r. r ++ k ∷ []) row) c.set.new.self.rows c.set.ensures

pub invariant_of-self-clause-index : goal.invariant_of-self-clause-index
invariant_of-self-clause-index c = (leaves c).index

pub returns-clause-keys : goal.returns-clause-keys
returns-clause-keys c = (leaves (goal.at.returns-clause-keys c).After-set).ranks
