use Rattle.std.proofs.Common.{sym, ap, ◌∙◌, ◌∷◌, rules}
use Rattle.text.specs.Cursor.{after, splits}
use Rattle.text.proofs.Splits.{splits_free, splits_cut}
use Rattle.text.proofs.read.WordsIterator.next.Goals as goal

pub returns-in-Some : goal.returns-in-Some
returns-in-Some c =
    let steps = ap after (sym c.take.ensures.value ∙ c.in_ok-line.was) ∙ ap splits c.in-Some.ensures.1 ∙ splits_cut _ _ c.in-Some.ensures.0 in
    record { steps = steps; goes = search rules }

pub returns-in-None : goal.returns-in-None
returns-in-None c =
    let steps = ap after (sym c.take.ensures.value ∙ c.in_ok-line.was) ∙ splits_free _ c.in-None.ensures ∙ ap (λ r. c.in_ok-line.line.now ∷ after r) (sym c.take.ensures.after) in
    record { steps = steps; goes = search rules }
