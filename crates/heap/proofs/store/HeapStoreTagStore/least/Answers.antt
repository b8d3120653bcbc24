use Rattle.std.proofs.Common.{Some, None, sym, ap, ◌∙◌, arith}
use Rattle.tags.specs.Held.{Least}
use Rattle.tags.proofs.Uses.{looks_least}
use Rattle.heap.specs.Index.{pair_at}
use Rattle.heap.specs.Keys.{count}
use Rattle.heap.proofs.Roots.{empty_looks, root_least}
use Rattle.heap.proofs.store.HeapStoreTagStore.least.Goals as goal

pub returns-in_err-group : goal.returns-in_err-group
returns-in_err-group c =
    let h = c.args.self.now.heaps in
    let past = c.in_err-group.ensures in
    let none = empty_looks h c.args.group (λ l. absurd (omega arith)) in
    rw c.from_residual.ensures (record { value = looks_least (pair_at h.standings.rows) c.args.group None none; looks = none })

pub returns-in_err-class : goal.returns-in_err-class
returns-in_err-class c =
    let h = c.args.self.now.heaps in
    let none = empty_looks h c.args.group (λ l. ap (count h) (sym c.in_ok-group.ensures) ∙ c.in_err-class.ensures) in
    rw c.from_residual-in_err-class.ensures (record { value = looks_least (pair_at h.standings.rows) c.args.group None none; looks = none })

pub returns : goal.returns
returns c =
    let h = c.args.self.now.heaps in
    let g = c.in_ok-group.group in
    let first = c.in_ok-class.ensures in
    let least : Least (pair_at h.standings.rows) c.args.group c.get.result c.tag.result 64 = rw (sym c.in_ok-group.ensures, c.get.ensures.value, c.tag.ensures, first.1) (root_least h g.value g.small first.0 (c.args.self.now.ordered g.value)) in
    record { value = looks_least (pair_at h.standings.rows) c.args.group (Some (c.get.result, c.tag.result)) least; looks = least }
