-- The turn stays open until it is closed. Assumes nothing.
use Rattle.std.proofs.Common.{refl}
use Rattle.tree.specs.Answers.{grant_of}
use Rattle.tree.specs.Trees.{state_of}
use Rattle.sharing.proofs.Turns.{again, whole}
use Rattle.sharing.proofs.turn.run.Goals as goal

pub give_up-requires : goal.give_up-requires
give_up-requires g c =
    let sh = c.args.shelf.now in
    let grant = grant_of c.args.grant in
    again g.I.Item c.pulses-left.new.tree sh grant (g.S.Server.work c.pulses-left.new.server) 0 (c.pulses-left.ensures sh (again g.I.Item c.args.tree.now sh grant 0 (g.S.Server.work c.args.server.now) c.requires)).0

pub close-requires : goal.close-requires
close-requires g c =
    let sh = c.args.shelf.now in
    let grant = grant_of c.args.grant in
    again g.I.Item c.pulses-left.new.tree sh grant (g.S.Server.work c.pulses-left.new.server) 0 (c.pulses-left.ensures sh (again g.I.Item c.args.tree.now sh grant 0 (g.S.Server.work c.args.server.now) c.requires)).0

pub returns-then-left-gt0 : goal.returns-then-left-gt0
returns-then-left-gt0 g c = λ b since.
    let sh = c.args.shelf.now in
    let v = g.S.Server.work c.pulses-left.new.server in
    whole b (state_of c.pulses-left.new.tree sh v) (state_of c.give_up.new.tree sh v) _ ((c.pulses-left.ensures sh (again g.I.Item c.args.tree.now sh (grant_of c.args.grant) 0 (g.S.Server.work c.args.server.now) c.requires)).1 b since) (c.give_up.ensures v) refl

pub returns : goal.returns
returns g c = λ b since.
    let sh = c.args.shelf.now in
    let v = g.S.Server.work c.pulses-left.new.server in
    whole b (state_of c.pulses-left.new.tree sh v) (state_of c.close.new.tree c.close.new.shelf v) _ ((c.pulses-left.ensures sh (again g.I.Item c.args.tree.now sh (grant_of c.args.grant) 0 (g.S.Server.work c.args.server.now) c.requires)).1 b since) (c.close.ensures v) refl
