-- A pulse is a step of the rules, and draws what is still to do. Assumes nothing.
use Rattle.std.proofs.Common.{rules}
use Rattle.rules.proofs.Bounds.{laws_met}
use Rattle.tree.proofs.Exits.{lasting}
use Rattle.tree.proofs.tree.Tree.pulse.Goals as goal

pub returns-in_default-clause-lawful : goal.returns-in_default-clause-lawful
returns-in_default-clause-lawful g c = lasting _ _ (laws_met g.met.I.Item) (λ sh. search rules)

pub returns-then-not-gave-clause-lawful : goal.returns-then-not-gave-clause-lawful
returns-then-not-gave-clause-lawful g c = lasting _ _ (laws_met g.met.I.Item) (λ sh. search rules)

pub returns-then-done-cost-clause-lawful : goal.returns-then-done-cost-clause-lawful
returns-then-done-cost-clause-lawful g c = lasting _ _ (laws_met g.met.I.Item) (λ sh. search rules)

pub returns-clause-lawful : goal.returns-clause-lawful
returns-clause-lawful g c = lasting _ _ (laws_met g.met.I.Item) (λ sh. search rules)
