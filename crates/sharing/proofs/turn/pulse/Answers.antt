-- A pulse leaves the turn open. Assumes nothing.
use Rattle.tree.specs.Answers.{grant_of}
use Rattle.tree.specs.Trees.{state_of}
use Rattle.sharing.proofs.Turns.{keeps}
use Rattle.sharing.proofs.turn.pulse.Goals as goal

pub returns-in-Ok : goal.returns-in-Ok
returns-in-Ok g c = λ sh r.
    let grant = grant_of c.args.grant.now in
    keeps g.I.Item (state_of c.args.tree.now sh (g.S.Server.work c.args.server.now)) grant grant r _ (state_of c.pulse.new.self sh (g.S.Server.work c.pulse.new.server)) (c.in-Ok.ensures.steps sh)
