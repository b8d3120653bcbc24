use Rattle.play.proofs.Onward.{as_event}
use Rattle.play.proofs.player.Player.take.Goals as goal

pub returns-in-Submit : goal.returns-in-Submit
returns-in-Submit g c = as_event g.I.Item g.S.Server g.I.OfCost.item _ c.in-Submit.is c.submit.ensures

pub returns-in-Dispatch : goal.returns-in-Dispatch
returns-in-Dispatch g c = as_event g.I.Item g.S.Server g.I.OfCost.item _ c.in-Dispatch.is c.dispatch.ensures

pub returns-in-Pulse : goal.returns-in-Pulse
returns-in-Pulse g c = as_event g.I.Item g.S.Server g.I.OfCost.item _ c.in-Pulse.is c.pulse.ensures

pub returns-in-End : goal.returns-in-End
returns-in-End g c = as_event g.I.Item g.S.Server g.I.OfCost.item _ c.in-End.is c.end.ensures

pub returns-in-GiveUp : goal.returns-in-GiveUp
returns-in-GiveUp g c = as_event g.I.Item g.S.Server g.I.OfCost.item _ c.in-GiveUp.is c.give_up.ensures
