use Rattle.std.proofs.Common.{Some, None, sym, ap, ◌∙◌}
use Rattle.tags.specs.Held.{with, tag_of}
use Rattle.tags.proofs.Uses.{with_none}
use Rattle.sorted.specs.Rows.{held_in}
use Rattle.sorted.proofs.Means.{held_none, held_at}
use Rattle.sorted.proofs.store.SortedStoreTagStore.take.Goals as goal

pub returns-in_err-at : goal.returns-in_err-at
returns-in_err-at c =
    let es = c.args.self.now.entries.items in
    let none = held_none es c.args.class c.in_err-at.ensures in
    record { answer = c.from_residual.ensures ∙ sym (ap tag_of none); after = with_none (held_in es) c.args.class none }

pub returns : goal.returns
returns c =
    let s = c.args.self.now in
    let es = s.entries.items in
    let e = c.remove.result in
    let at = c.in_ok-at.ensures in
    let held = held_at es c.args.class c.in_ok-at.at e s.once at.0 (at.1 e) in
    record { answer = ap (λ a. Some a.tag) c.remove.ensures.value ∙ sym (ap tag_of held); after = c.remove.ensures.after ∙ ap (λ k. with (held_in es) k None) (ap (λ a. a.class.value) c.remove.ensures.value ∙ at.1 e) }
