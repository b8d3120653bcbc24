-- Each way out tells the line behind those that are read.
use Rattle.std.proofs.Common.{◌≡◌, sym, refl, subst, arith, true-eqb, false-eqb, rules, Ok, Err}
use Rattle.std.proofs.lemmas.Result.{err_from_is_err_and}
use Rattle.std.proofs.lemmas.Grind.{common_steps}
use Rattle.plans.specs.declared.fault.Wrong.TheVariants.{Refused}
use Rattle.plans.specs.Inputs.{Told, Judged}
use Rattle.plans.proofs.Reading.{one_more, planned, told_misformed, told_refused, told_unfinished}
use Rattle.plans.proofs.read.read.Goals as goal

pub returns-in_err-line : goal.returns-in_err-line
returns-in_err-line c =
    let p = err_from_is_err_and c.from_residual.result c.from_residual.ensures.1 in
    let none = c.in_err-line.ensures.ok_part in
    let is = rw none at c.in_err-line.ensures.value in
    rw (p.1, p.2)
    (subst (Told _) (cc (is, c.refused.ensures))
    (told_misformed _ _ _ _ c.loop-rest.invariant (omega (arith, false-eqb _ 0 c.loop-rest-test.ensures)) (rw none at c.first_line.ensures)))

pub returns-in_err-stage : goal.returns-in_err-stage
returns-in_err-stage c =
    let p = err_from_is_err_and c.from_residual-in_err-stage.result c.from_residual-in_err-stage.ensures.1 in
    let cases = c.in_err-stage.ensures.cases in
    let parts = rw c.in_ok-line.ensures.ok_part at c.first_line.ensures in
    rw (p.1, p.2)
    (elim c.take.result as (λ r. r ≡ c.take.result → Told c.args.input.now c.in_err-stage.field-0.0) [
      | Ok s ↦ λ e. absurd (cc (rw (sym e) at cases))
      | Err f ↦
          λ e.
          let refusal = rw (sym e) at c.take.ensures in
          let told = rw (sym e) at cases in
          let is : c.in_err-stage.field-0.0 ≡ record { line = c.loop-rest.number; wrong = Refused f } = search (rules, told) in
          subst (Told _) (sym is) (told_refused _ _ _ _ c.loop-rest.invariant _ _ _ parts.1 parts.0 refusal)
    ] refl)

pub loop-rest-preserved : goal.loop-rest-preserved
loop-rest-preserved c = grind (arith, common_steps, one_more)

pub returns : goal.returns
returns c =
    let none = true-eqb _ 0 c.loop-rest-test.ensures in
    let cases = c.map_err-2.ensures.cases in
    elim c.plan.result as (λ r. r ≡ c.plan.result → Judged c.args.input.now c.map_err-2.result) [
      | Ok p ↦
          λ e.
          let parts = rw (sym e) at c.plan.ensures in
          rw (rw (sym e) at cases) (planned _ _ _ _ c.loop-rest.invariant p none parts.0 parts.1)
      | Err w ↦
          λ e.
          let told = rw (sym e) at cases in
          let is : c.map_err-2.result ≡ Err (record { line = c.loop-rest.number; wrong = w }) = search (rules, told) in
          rw is (told_unfinished _ _ _ _ c.loop-rest.invariant w none (rw (sym e) at c.plan.ensures))
    ] refl
