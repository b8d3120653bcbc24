use Rattle.std.proofs.Common.{rules}
use Rattle.std.proofs.lemmas.List.Sorted.{IsPartitionPoint-from_clause}
use Rattle.sorted.specs.Rows.{precedes}
use Rattle.sorted.proofs.Precedes.{before_first}
use Rattle.sorted.proofs.store.SortedStore.place.Goals as goal

pub returns-clause-parted : goal.returns-clause-parted
returns-clause-parted c =
    let s = c.args.self.now in
    let es = s.entries.items in
    let key = c.args.key in
    IsPartitionPoint-from_clause (λ a. precedes a key) es c.partition_point.result (rw c.deref.ensures.0 at c.partition_point.ensures.partitioned) (before_first es s.sorted key) (λ a r f' k. search rules)
