use Rattle.std.proofs.Common.{refl, ap}
use Rattle.rules.specs.Rules.{pulse}
use Rattle.text.specs.declared.line.Event.TheVariants.{Pulse}
use Rattle.tree.specs.Answers.{grant_of}
use Rattle.play.proofs.Onward.{pulsed_on, refused_on, own_grant, no_pulse, handed_on}
use Rattle.play.proofs.player.Player.pulse.Goals as goal

pub returns-in_default : goal.returns-in_default
returns-in_default g c = λ t o first es h bs f. no_pulse g.I.Item g.S.Server g.I.OfCost.item f c.in_default.is

pub returns-in_err-done : goal.returns-in_err-done
returns-in_err-done g c = λ t o first es h bs f.
    let told = c.in_err-done.ensures in
    let u = c.in-Some.turn in
    handed_on g.I.Item g.S.Server g.I.OfCost.item f Pulse c.in_err-done.field-0.0 c.from_residual.result c.from_residual.ensures.1
    (refused_on g.I.Item g.S.Server g.I.OfCost.item f _ Pulse (pulse (grant_of u.grant)) (ap pulse (own_grant g.I.Item g.S.Server g.I.OfCost.item f u c.in-Some.is))
    c.in_err-done.field-0.0 told.table (told.steps c.args.self.now.shelf) told.drew f.turn refl)

pub returns : goal.returns
returns g c = λ t o first es h bs f.
    let told = c.in_ok-done.ensures in
    pulsed_on g.I.Item g.S.Server g.I.OfCost.item f c.in-Some.turn c.in-Some.is _ c.in_ok-done.done told.table (told.steps c.args.self.now.shelf) told.drew refl refl
