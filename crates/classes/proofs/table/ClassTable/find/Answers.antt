use Rattle.std.proofs.Common.{◌≡◌, ◌≢◌, ◌∙◌, sym, subst, rules, tests}
use Rattle.std.proofs.lemmas.Iterator.{IsFirst-from_position, YieldsList-from_slice}
use Rattle.classes.specs.Names.{text_of}
use Rattle.classes.specs.Tables.{named, Finds}
use Rattle.classes.specs.declared.class.Class.{Class}
use Rattle.classes.proofs.Tables.{found_first}
use Rattle.classes.proofs.table.ClassTable.find.Goals.{After-branch-number}
use Rattle.classes.proofs.table.ClassTable.find.Goals as goal

found : (c : After-branch-number) → (c.position.result ≡ named c.args.self.now c.args.name.now) × Finds c.args.self.now c.args.name.now c.position.result
found c =
    let w = c.args.name.now in
    found_first c.args.self.now w _ (IsFirst-from_position _ _ c.position.result (λ (x : Class). text_of x.name ≡ w) (λ x. text_of x.name ≢ w) c.position.ensures.ran (YieldsList-from_slice _ cc) (λ x q k. search (rules, tests)) (λ x q k. search (rules, tests)))

pub returns-in_err-number-clause-value : goal.returns-in_err-number-clause-value
returns-in_err-number-clause-value c = c.from_residual.ensures ∙ sym c.in_err-number.was ∙ (found (goal.at.returns-in_err-number-clause-value c).After-branch-number).0

pub returns-clause-value : goal.returns-clause-value
returns-clause-value c = sym c.in_ok-number.was ∙ (found (goal.at.returns-clause-value c).After-branch-number).0

pub returns-clause-finds : goal.returns-clause-finds
returns-clause-finds c = subst (Finds c.args.self.now c.args.name.now) c.in_ok-number.was (found (goal.at.returns-clause-finds c).After-branch-number).1
