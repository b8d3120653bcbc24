use Rattle.std.proofs.Common.{ap, ◌∙◌, arith}
use mathlib.Core.Path.{fun_ext}
use Rattle.sorted.specs.Rows.{held_in}
use Rattle.sorted.proofs.Means.{free_none, held_more}
use Rattle.sorted.proofs.Sorts.{once_more, order_more, entries_room}
use Rattle.sorted.proofs.store.SortedStore.insert.Goals as goal

pub insert-requires : goal.insert-requires
insert-requires c =
    let s = c.args.self.now in
    let new = c.args.new.now in
    (omega arith, (c.place-at.ensures.most, entries_room s.entries.items s.once new (free_none s.entries.items new.class.value s.once c.requires)))

pub returns : goal.returns
returns c =
    let s = c.args.self.now in
    let es = s.entries.items in
    let new = c.args.new.now in
    let none = free_none es new.class.value s.once c.requires in
    ap held_in c.insert.ensures.items ∙ fun_ext (held_more es c.place-at.result new none)

pub invariant_of-self : goal.invariant_of-self
invariant_of-self c =
    let s = c.args.self.now in
    let es = s.entries.items in
    let new = c.args.new.now in
    let none = free_none es new.class.value s.once c.requires in
    let at = c.place-at.ensures in
    rw c.insert.ensures.items (record {
      once = once_more es c.place-at.result new at.most none s.once;
      sorted = order_more es c.place-at.result new at.most none s.sorted at.parted;
    })
