-- A turn is ended, or else given up. Assumes nothing.
use Rattle.std.proofs.Common.{ap, ◌∙◌, subst}
use Rattle.tree.specs.Answers.{grant_of}
use Rattle.tree.specs.Trees.{state_of}
use Rattle.sharing.specs.Turns.{Closed}
use Rattle.sharing.proofs.Turns.{ends}
use Rattle.sharing.proofs.turn.close.Goals as goal

pub returns-in-Ok : goal.returns-in-Ok
returns-in-Ok g c = λ w. ends g.I.Item (state_of c.args.tree.now c.args.shelf.now w) (state_of c.end.new.self c.end.new.shelf w) (grant_of c.args.grant) _ (c.in-Ok.ensures.steps w)

pub returns-in-Err : goal.returns-in-Err
returns-in-Err g c = λ w.
    let e = c.in-Err.ensures in
    let u = c.end.new.shelf in
    subst (λ s. Closed s c.give_up.result.0 (state_of c.give_up.new.tree u w)) (ap (λ t. state_of t u w) e.refused.1 ∙ ap (λ s. state_of c.args.tree.now s w) e.refused.2) (c.give_up.ensures w)
