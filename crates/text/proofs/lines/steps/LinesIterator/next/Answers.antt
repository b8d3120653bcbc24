use Rattle.std.proofs.Common.{arith, rules, false-eqb}
use Rattle.text.proofs.Ends.{one_line, no_end}
use Rattle.text.proofs.lines.steps.LinesIterator.next.Goals as goal

pub returns-in-Some-clause-steps : goal.returns-in-Some-clause-steps
returns-in-Some-clause-steps c =
    let parts = c.in-Some.ensures in
    one_line _ _ _ parts.0 parts.1 _ c.line.ensures

pub returns-in-None-clause-steps : goal.returns-in-None-clause-steps
returns-in-None-clause-steps c = (search rules, no_end _ (omega (arith, false-eqb _ 0 c.if-is_empty.ensures)) c.in-None.ensures)
