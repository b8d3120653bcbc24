use Rattle.std.proofs.Common.{[], ◌++◌, take, sym, subst, arith}
use Rattle.std.proofs.lemmas.List.{take_more, take_all}
use Rattle.listing.specs.declared.line.Line.TheVariants.{Event as event}
use Rattle.listing.specs.Lines.{ended}
use Rattle.listing.specs.Listings.{Holds}
use Rattle.play.proofs.Onward.{follows_as}
use Rattle.play.proofs.player.Player.play.Goals as goal

pub loop-event-init : goal.loop-event-init
loop-event-init g c = λ t o first f z. ([], ([], f, z))

pub loop-event-preserved : goal.loop-event-preserved
loop-event-preserved g c = λ t o first f z.
    let (h, (bs, before, written)) = c.loop-event.invariant t o first f z in
    let (a, step, next) = c.take-outcome.ensures t o first (take c.loop-event.event-index c.args.events.now) h bs before in (
      _,
      (
        _,
        follows_as g.I.Item g.S.Server g.I.OfCost.item (sym (take_more c.args.events.now c.loop-event.event-index _ (omega arith))) next,
        subst (λ x. Holds c.push.new.self (bs ++ ended (event x c.take-outcome.result))) c.letter.ensures (c.push.ensures bs written),
      ),
    )

pub returns : goal.returns
returns g c = λ t o first f z.
    let (h, (bs, all, written)) = c.loop-event.invariant t o first f z in
    (h, (bs, follows_as g.I.Item g.S.Server g.I.OfCost.item (take_all c.loop-event.event-index c.args.events.now (omega arith)) all, written))
