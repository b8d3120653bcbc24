-- A dispatch begins the turn, and the run closes it. Assumes nothing.
use Rattle.std.proofs.Common.{refl, sym, ap, subst}
use Rattle.std.proofs.lemmas.Result.{err_from_is_err_and}
use Rattle.rules.specs.Rules.{Step, dispatch, refused}
use Rattle.tree.specs.Answers.{grant_of}
use Rattle.tree.specs.Trees.{state_of}
use Rattle.sharing.proofs.Turns.{begins}
use Rattle.sharing.proofs.turn.serve.Goals as goal

pub returns-in_err-grant : goal.returns-in_err-grant
returns-in_err-grant g c =
    let e = c.in_err-grant.ensures in
    let s = state_of c.args.tree.now c.args.shelf.now 0 in
    let step = subst (λ t. Step g.I.Item s dispatch (refused c.in_err-grant.field-0.0) (state_of t c.args.shelf.now 0)) e.grant (e.steps 0) in
    let (_, is, from) = err_from_is_err_and c.from_residual.result c.from_residual.ensures.1 in
    rw is (e.grant, refl, refl, subst (λ x. Step g.I.Item s dispatch (refused x) s) (sym from) step)

pub run-charge-requires : goal.run-charge-requires
run-charge-requires g c =
    let d = c.in_ok-grant.field-0 in
    let e = c.in_ok-grant.ensures in
    (begins g.I.Item (state_of c.args.tree.now c.args.shelf.now 0) (state_of c.dispatch.new.self c.args.shelf.now 0) (grant_of d.grant) d.class d.cost (e.steps 0) (ap grant_of e.grant)).0

pub returns : goal.returns
returns g c =
    let d = c.in_ok-grant.field-0 in
    let e = c.in_ok-grant.ensures in
    let w = g.S.Server.work c.args.server.now in
    let s = state_of c.args.tree.now c.args.shelf.now w in
    c.run-charge.ensures s (begins g.I.Item s (state_of c.dispatch.new.self c.args.shelf.now w) (grant_of d.grant) d.class d.cost (e.steps w) (ap grant_of e.grant)).1
