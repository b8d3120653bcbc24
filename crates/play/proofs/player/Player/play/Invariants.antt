use Rattle.std.proofs.Common.{take}
use Rattle.play.specs.Players.{PlaysAll}
use Rattle.play.proofs.player.Player.play.Given as goal

abbrev pub invariant-loop-event : goal.invariant-loop-event
invariant-loop-event g l = PlaysAll g.I.Item g.S.Server g.I.OfCost.item l.initial.self l.initial.listing (take l.event-index l.events) l.self l.listing
