use Rattle.std.proofs.Common.{◌<◌, ap, ◌∙◌, arith}
use Rattle.classes.specs.Tables.{class_count, shape_of, weight_of}
use Rattle.tags.proofs.Uses.{with_same, with_other}
use Rattle.tree.proofs.Charging.{charging_loads}
use Rattle.tree.proofs.Paths.{above_some}
use Rattle.tree.proofs.Stocks.{stocked_taken, stocked_put}
use Rattle.tree.proofs.Writes.{unused_set}
use Rattle.tree.proofs.queue.Queue.charge_class.Goals as goal

pub invariant_of-self-then-backlog-eq0-clause-in_step : goal.invariant_of-self-then-backlog-eq0-clause-in_step
invariant_of-self-then-backlog-eq0-clause-in_step g c =
    let q = c.args.self.now in
    stocked_taken (shape_of q.table) q.loads c.args.class _ (omega (arith, c.requires.known, q.table.few, q.size)) _ _ q.in_step c.take.ensures.after c.if-backlog-eq0.true

pub invariant_of-self-then-backlog-eq0-clause-unused : goal.invariant_of-self-then-backlog-eq0-clause-unused
invariant_of-self-then-backlog-eq0-clause-unused g c = unused_set c.args.self.now.loads c.args.class (class_count c.args.self.now.table) _ c.requires.known c.args.self.now.unused

pub invariant_of-self-2-clause-in_step : goal.invariant_of-self-2-clause-in_step
invariant_of-self-2-clause-in_step g c =
    let q = c.args.self.now in
    let held = g.T.TagStore.held in
    let (pos, known, is) = above_some (shape_of q.table) c.args.class c.in-Some.node c.in-Some.ensures in
    let few : c.args.class < 64 = omega (arith, q.table.few) in
    let low : c.in-Some.node < 64 = omega (arith, q.table.well_formed.earlier c.args.class pos) in
    stocked_put (shape_of q.table) q.loads c.args.class _ (omega (arith, q.size)) (held q.store) _ _ q.in_step
    (λ k n. ap (λ f. f k) c.take.ensures.after ∙ with_other (held q.store) c.args.class _ k n)
    (ap (λ f. f c.args.class) c.take.ensures.after ∙ with_same (held q.store) c.args.class _)
    c.in-Some.node (pos, is) few low (omega (arith, c.if-backlog-eq0.false)) c.put.result c.put.ensures.answer c.put.ensures.after

pub invariant_of-self-2-clause-unused : goal.invariant_of-self-2-clause-unused
invariant_of-self-2-clause-unused g c = unused_set c.args.self.now.loads c.args.class (class_count c.args.self.now.table) _ c.requires.known c.args.self.now.unused

pub returns-clause-loads : goal.returns-clause-loads
returns-clause-loads g c =
    let q = c.args.self.now in
    let (pos, known, is) = above_some (shape_of q.table) c.args.class c.in-Some.node c.in-Some.ensures in
    charging_loads (shape_of q.table) (weight_of q.table) c.args.closing.done c.args.closing.gone q.loads c.args.class (omega (arith, c.requires.known, q.table.few, q.size))
    c.left-backlog.result c.left-backlog.ensures c.in-Some.node _ _ (pos, is) (omega (arith, c.if-backlog-eq0.false)) c.finish_tag-finish.ensures c.max-start.ensures
