-- The own grant of a turn gives it up. Assumes nothing.
use Rattle.tree.specs.Answers.{grant_of}
use Rattle.tree.specs.Trees.{state_of}
use Rattle.sharing.proofs.Turns.{never_refused, gives_up}
use Rattle.sharing.proofs.turn.give_up.Goals as goal

pub unreachable-requires : goal.unreachable-requires
unreachable-requires g c =
    never_refused g.I.Item (state_of c.args.tree.now c.args.shelf.now 0) (state_of c.give_up.new.self c.args.shelf.now 0) (grant_of c.args.grant) _ c.requires (c.in-Err.ensures.steps 0)

pub returns : goal.returns
returns g c = λ w. gives_up g.I.Item (state_of c.args.tree.now c.args.shelf.now w) (state_of c.give_up.new.self c.args.shelf.now w) (grant_of c.args.grant) _ (c.in-Ok.ensures.steps w)
