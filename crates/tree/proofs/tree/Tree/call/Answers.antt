-- An arm that hands its call on is answered as the method of that name answers; the others refuse by the rules. Assumes nothing.
use Rattle.std.proofs.Common.{◌≡◌, rules}
use Rattle.rules.proofs.Bounds.{laws_met}
use Rattle.rules.proofs.Lawful.{onward}
use Rattle.tree.specs.Answers.{submitted, dispatched, pulsed, closed_by}
use Rattle.tree.specs.Calls.{answer_of}
use Rattle.tree.proofs.tree.Tree.call.Goals as goal

pub returns-in_default-Submit-clause-steps : goal.returns-in_default-Submit-clause-steps
returns-in_default-Submit-clause-steps g c =
    let said : answer_of c.map_err.result ≡ submitted c.submit.result = search rules in
    rw (said, c.in_default-Submit.is-1) (c.submit.ensures.steps _)

pub returns-in_default-Submit-clause-lawful : goal.returns-in_default-Submit-clause-lawful
returns-in_default-Submit-clause-lawful g c =
    let said : answer_of c.map_err.result ≡ submitted c.submit.result = search rules in
    rw (said, c.in_default-Submit.is-1) (c.submit.ensures.lawful _)

pub returns-in-Free-Dispatch-clause-steps : goal.returns-in-Free-Dispatch-clause-steps
returns-in-Free-Dispatch-clause-steps g c =
    let said : answer_of c.map_err-in-Free-Dispatch.result ≡ dispatched c.dispatch.result = search rules in
    rw (said, c.in-Free-Dispatch.is-1) (c.dispatch.ensures.steps _)

pub returns-in-Free-Dispatch-clause-lawful : goal.returns-in-Free-Dispatch-clause-lawful
returns-in-Free-Dispatch-clause-lawful g c =
    let said : answer_of c.map_err-in-Free-Dispatch.result ≡ dispatched c.dispatch.result = search rules in
    rw (said, c.in-Free-Dispatch.is-1) (c.dispatch.ensures.lawful _)

pub returns-in-Open-Pulse-clause-steps : goal.returns-in-Open-Pulse-clause-steps
returns-in-Open-Pulse-clause-steps g c =
    let said : answer_of c.map_err-in-Open-Pulse.result ≡ pulsed c.pulse.result = search rules in
    rw (said, c.in-Open-Pulse.is-1) (c.pulse.ensures.steps c.args.shelf.now)

pub returns-in-Open-Pulse-clause-lawful : goal.returns-in-Open-Pulse-clause-lawful
returns-in-Open-Pulse-clause-lawful g c =
    let said : answer_of c.map_err-in-Open-Pulse.result ≡ pulsed c.pulse.result = search rules in
    rw (said, c.in-Open-Pulse.is-1) (c.pulse.ensures.lawful c.args.shelf.now)

pub returns-in-Open-End-clause-steps : goal.returns-in-Open-End-clause-steps
returns-in-Open-End-clause-steps g c =
    let said : answer_of c.map_err-in-Open-End.result ≡ closed_by c.end.result = search rules in
    rw (said, c.in-Open-End.is-1) (c.end.ensures.steps _)

pub returns-in-Open-End-clause-lawful : goal.returns-in-Open-End-clause-lawful
returns-in-Open-End-clause-lawful g c =
    let said : answer_of c.map_err-in-Open-End.result ≡ closed_by c.end.result = search rules in
    rw (said, c.in-Open-End.is-1) (c.end.ensures.lawful _)

pub returns-in-Open-GiveUp-clause-steps : goal.returns-in-Open-GiveUp-clause-steps
returns-in-Open-GiveUp-clause-steps g c =
    let said : answer_of c.map_err-in-Open-GiveUp.result ≡ closed_by c.give_up.result = search rules in
    rw (said, c.in-Open-GiveUp.is-1) (c.give_up.ensures.steps _)

pub returns-in-Open-GiveUp-clause-lawful : goal.returns-in-Open-GiveUp-clause-lawful
returns-in-Open-GiveUp-clause-lawful g c =
    let said : answer_of c.map_err-in-Open-GiveUp.result ≡ closed_by c.give_up.result = search rules in
    rw (said, c.in-Open-GiveUp.is-1) (c.give_up.ensures.lawful _)

pub returns-in-Open-Dispatch-clause-lawful : goal.returns-in-Open-Dispatch-clause-lawful
returns-in-Open-Dispatch-clause-lawful g c = onward (laws_met g.met.I.Item) _ _ _ _ (search rules)

pub returns-in-Free-Pulse-clause-lawful : goal.returns-in-Free-Pulse-clause-lawful
returns-in-Free-Pulse-clause-lawful g c = onward (laws_met g.met.I.Item) _ _ _ _ (search rules)

pub returns-in-Free-End-clause-lawful : goal.returns-in-Free-End-clause-lawful
returns-in-Free-End-clause-lawful g c = onward (laws_met g.met.I.Item) _ _ _ _ (search rules)

pub returns-in-Free-GiveUp-clause-lawful : goal.returns-in-Free-GiveUp-clause-lawful
returns-in-Free-GiveUp-clause-lawful g c = onward (laws_met g.met.I.Item) _ _ _ _ (search rules)
