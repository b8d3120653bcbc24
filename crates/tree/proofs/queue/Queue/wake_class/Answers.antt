-- A class that was backlogged stands as it stood; another stood nowhere, and is put under its parent. Assumes nothing.
use Rattle.std.proofs.lemmas.Bool.{lt-ltb}
use Rattle.tree.specs.Loads.{load}
use Rattle.std.proofs.Common.{◌≡◌, ◌+◌, ◌&&◌, cond, ltb, length, Some, None, sym, ap, ◌∙◌, ◌<◌, refl, arith}
use Rattle.classes.specs.Tables.{class_count, shape_of}
use Rattle.tree.proofs.Paths.{above_some}
use Rattle.tree.proofs.Writes.{unused_set}
use Rattle.tree.proofs.Stocks.{stands_not, stocked_same, stocked_put}
use Rattle.tree.proofs.queue.Queue.wake_class.Goals as goal

pub invariant_of-self-then-load-gt0-clause-in_step : goal.invariant_of-self-then-load-gt0-clause-in_step
invariant_of-self-then-load-gt0-clause-in_step g c =
    let q = c.args.self.now in
    let l = load q.loads c.args.class in
    let known : c.args.class < length q.loads = omega (arith, c.requires.known, q.table.few, q.size) in
    let still : ltb 0 l.backlog ≡ ltb 0 (l.backlog + 1) = lt-ltb 0 l.backlog c.if-load-gt0.true ∙ sym (lt-ltb 0 (l.backlog + 1) (omega arith)) in
    stocked_same (shape_of q.table) q.loads c.args.class _ known _ q.in_step (ap (λ b. cond (ltb 0 c.args.class && b) (Some ((shape_of q.table).parent c.args.class, l.start)) None) still)

pub invariant_of-self-then-load-gt0-clause-unused : goal.invariant_of-self-then-load-gt0-clause-unused
invariant_of-self-then-load-gt0-clause-unused g c = unused_set c.args.self.now.loads c.args.class (class_count c.args.self.now.table) _ c.requires.known c.args.self.now.unused

pub invariant_of-self-2-clause-in_step : goal.invariant_of-self-2-clause-in_step
invariant_of-self-2-clause-in_step g c =
    let q = c.args.self.now in
    let t = shape_of q.table in
    let (pos, known, is) = above_some t c.args.class c.in-Some.node c.in-Some.ensures in
    let few : c.args.class < 64 = omega (arith, q.table.few) in
    let low : c.in-Some.node < 64 = omega (arith, q.table.well_formed.earlier c.args.class pos) in
    let out = stands_not t q.loads c.args.class (g.T.TagStore.held q.store) q.in_step (omega arith) in
    stocked_put t q.loads c.args.class _ (omega (arith, q.size)) _ _ _ q.in_step (λ k n. refl) out c.in-Some.node (pos, is) few low (omega arith)
    c.put.result c.put.ensures.answer c.put.ensures.after

pub invariant_of-self-2-clause-unused : goal.invariant_of-self-2-clause-unused
invariant_of-self-2-clause-unused g c = unused_set c.args.self.now.loads c.args.class (class_count c.args.self.now.table) _ c.requires.known c.args.self.now.unused
