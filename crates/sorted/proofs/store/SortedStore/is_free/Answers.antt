use Rattle.std.proofs.Common.{ap, ◌∙◌}
use Rattle.tags.specs.Held.{free}
use Rattle.sorted.specs.Rows.{held_in}
use Rattle.sorted.proofs.Means.{found_free}
use Rattle.sorted.proofs.store.SortedStore.is_free.Goals as goal

pub returns : goal.returns
returns c =
    let es = c.args.self.now.entries.items in
    found_free es c.get.result c.position.result c.is_none.result c.args.self.now.once c.position.ensures c.is_none.ensures ∙ ap (λ k. free (held_in es k)) c.get.ensures.value
