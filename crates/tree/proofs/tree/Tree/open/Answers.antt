-- Nothing waits in a new tree, and every tag is 0. Assumes nothing.
use Rattle.std.proofs.Common.{false, refl, ap, arith}
use Rattle.classes.specs.Tables.{shape_of}
use Rattle.std.proofs.lemmas.Bool.{both_ways}
use Rattle.tree.proofs.Openings.{none_queued, none_counted, none_within}
use Rattle.tree.proofs.tree.Tree.open.Goals as goal

pub invariant_of-result : goal.invariant_of-result
invariant_of-result g c =
    let t = shape_of c.new-queue.result.table in
    let ls = c.new-queue.result.loads in
    let blank = c.new-queue.ensures.loads in
    record {
      counted = none_counted t ls blank;
      few = λ k. omega (arith, none_queued t ls blank k);
      tagged = none_within t ls blank 0;
      rooted = ap (λ l. l.start.0) (blank 0);
      served = λ e. absurd (both_ways false refl e);
      within = omega arith;
      metered = omega arith;
      given = omega arith;
    }
