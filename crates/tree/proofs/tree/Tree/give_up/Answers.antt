-- A giving up is a step of the rules. Assumes nothing.
use Rattle.std.proofs.Common.{rules, ◌≡◌, ℕ, sym, ◌∙◌, subst}
use Rattle.std.proofs.lemmas.Bool.{eqb-true}
use Rattle.rules.specs.Rules.{give_up, closed, Step}
use Rattle.rules.proofs.Bounds.{laws_met}
use Rattle.tree.specs.Answers.{grant_of}
use Rattle.tree.specs.Trees.{state_of}
use Rattle.tree.proofs.Exits.{lasting}
use Rattle.tree.proofs.Closings.{gives_up}
use Rattle.tree.proofs.tree.Tree.give_up.Goals as goal

pub returns-in_default-clause-lawful : goal.returns-in_default-clause-lawful
returns-in_default-clause-lawful g c = lasting _ _ (laws_met g.met.I.Item) (λ w. search rules)

pub returns-then-not-gave-clause-lawful : goal.returns-then-not-gave-clause-lawful
returns-then-not-gave-clause-lawful g c = lasting _ _ (laws_met g.met.I.Item) (λ w. search rules)

pub returns-then-not-matches-clause-lawful : goal.returns-then-not-matches-clause-lawful
returns-then-not-matches-clause-lawful g c = lasting _ _ (laws_met g.met.I.Item) (λ w. search rules)

pub returns-clause-steps : goal.returns-clause-steps
returns-clause-steps g c =
    let t = c.args.self.now in
    let u = c.close.new.self in
    let leaf = c.in-Open.leaf in
    let cost = c.in-Open.cost in
    let done = c.in-Open.done in
    let is : c.new.result.0 ≡ done = c.new.ensures ∙ c.from.ensures in
    let step = gives_up g.I.Item t (grant_of c.args.grant) leaf cost done c.in-Open.is c.if-not-gave.ensures c.args.shelf.now (eqb-true _ _ (sym c.if-not-matches.ensures)) u c.close.ensures in
    λ (w : ℕ). subst (λ d. Step g.I.Item (state_of t c.args.shelf.now w) (give_up (grant_of c.args.grant)) (closed d) (state_of u c.args.shelf.now w)) (sym is) (step w)

pub returns-clause-lawful : goal.returns-clause-lawful
returns-clause-lawful g c = lasting _ _ (laws_met g.met.I.Item) (returns-clause-steps g c)
