use Rattle.play.proofs.Finishing.{rests, gives_up}
use Rattle.play.proofs.Turns.{is_held, is_not_held}
use Rattle.play.proofs.player.Player.finish.Goals as goal

pub returns-then-is_none : goal.returns-then-is_none
returns-then-is_none g c = λ t o first es h bs f z. (h, (bs, rests g.I.Item g.S.Server g.I.OfCost.item f (is_not_held c.args.self.now.held c.if-is_none.ensures), z))

pub returns : goal.returns
returns g c = λ t o first es h bs f z.
    let (u, some) = is_held c.args.self.now.held c.if-is_none.ensures in
    let (a, step, next) = c.give_up-outcome.ensures t o first es h bs f in
    (_, (_, gives_up g.I.Item g.S.Server g.I.OfCost.item f u some _ _ a step next, c.push.ensures bs z))
