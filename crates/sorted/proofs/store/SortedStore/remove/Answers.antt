use Rattle.std.proofs.Common.{◌≡◌, true, None, sym, ap, ◌∙◌}
use mathlib.Core.Path.{fun_ext}
use Rattle.std.proofs.lemmas.List.Quantifiers.{all_pairs_remove}
use Rattle.tags.specs.Held.{with}
use Rattle.sorted.specs.Rows.{held_in, precedes, differ}
use Rattle.sorted.proofs.Means.{held_less}
use Rattle.sorted.proofs.store.SortedStore.remove.Goals as goal

pub invariant_of-self : goal.invariant_of-self
invariant_of-self c =
    let s = c.args.self.now in
    let es = s.entries.items in
    rw c.remove.ensures.items (record {
      once = all_pairs_remove (λ a b. differ a b ≡ true) es c.args.at c.requires s.once;
      sorted = all_pairs_remove (λ a b. precedes a b ≡ true) es c.args.at c.requires s.sorted;
    })

pub returns-clause-after : goal.returns-clause-after
returns-clause-after c =
    let s = c.args.self.now in
    let es = s.entries.items in
    let e = c.remove.result in
    ap held_in c.remove.ensures.items ∙ fun_ext (held_less es c.args.at e s.once c.requires) ∙ ap (λ a. with (held_in es) a.class.value None) (sym c.remove.ensures.value)
