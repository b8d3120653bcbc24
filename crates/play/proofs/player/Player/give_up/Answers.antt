use Rattle.std.proofs.Common.{Err, sym, refl, ap, ◌∙◌}
use Rattle.base.specs.declared.refusal.Refusal.TheVariants.{WrongGrant}
use Rattle.rules.specs.Rules.{give_up}
use Rattle.text.specs.declared.line.Event.TheVariants.{GiveUp}
use Rattle.tree.specs.Answers.{grant_of}
use Rattle.play.proofs.Onward.{closed_on, refused_on, own_grant, turn_back, same_held, no_give_up}
use Rattle.play.proofs.player.Player.give_up.Goals as goal

pub returns-in_default : goal.returns-in_default
returns-in_default g c = λ t o first es h bs f.
    let none = sym c.take.ensures.value ∙ c.in_default.is in
    same_held g.I.Item g.S.Server g.I.OfCost.item f c.take.new.self (none ∙ sym c.take.ensures.after) GiveUp (Err WrongGrant) (no_give_up g.I.Item g.S.Server g.I.OfCost.item f none)

pub returns-in-Ok : goal.returns-in-Ok
returns-in-Ok g c = λ t o first es h bs f.
    let told = c.in-Ok.ensures in
    let u = c.in-Some.turn in
    let some = sym c.take.ensures.value ∙ c.in-Some.is in
    closed_on g.I.Item g.S.Server g.I.OfCost.item f u some _ GiveUp (give_up (grant_of u.grant)) (ap give_up (own_grant g.I.Item g.S.Server g.I.OfCost.item f u some))
    c.in-Ok.done told.table (told.steps _) (told.lawful _) refl c.take.ensures.after c.add.ensures

pub returns-in-Err : goal.returns-in-Err
returns-in-Err g c = λ t o first es h bs f.
    let told = c.in-Err.ensures in
    let u = c.in-Some.turn in
    let some = sym c.take.ensures.value ∙ c.in-Some.is in
    refused_on g.I.Item g.S.Server g.I.OfCost.item f _ GiveUp (give_up (grant_of u.grant)) (ap give_up (own_grant g.I.Item g.S.Server g.I.OfCost.item f u some))
    c.in-Err.refusal told.table (told.steps _) refl
    (turn_back g.I.Item g.S.Server g.I.OfCost.item f u some _ c.in-Err.grant told.refused.0 refl) refl
