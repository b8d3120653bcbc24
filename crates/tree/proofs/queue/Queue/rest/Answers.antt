use Rattle.std.proofs.Common.{◌≡◌, refl, ap, subst, arith}
use Rattle.classes.specs.Tables.{class_count, shape_of, sibling_below}
use Rattle.classes.proofs.Tables.{shape_sound}
use Rattle.tree.proofs.Resting.{clearing_none, clearing_more, clearing_all, child_known, child_falls}
use Rattle.tree.proofs.Stocks.{stocked_same}
use Rattle.tree.proofs.Writes.{unused_set}
use Rattle.tree.proofs.queue.Queue.rest.Goals as goal

pub loop-next-init : goal.loop-next-init
loop-next-init g c =
    let q = c.args.self.now in
    record { table = refl; kept = refl; cleared = clearing_none (shape_sound q.table) c.args.node q.loads c.first_child-next.result c.first_child-next.ensures q.unused }

pub bounds-self-child : goal.bounds-self-child
bounds-self-child g c =
    let t = c.args.self.now.table in
    omega (arith, child_known (shape_sound t) c.args.node _ _ c.loop-next.next c.loop-next.invariant.cleared c.in-Some.child c.in-Some.is, t.few)

pub bounds-self-child-in-Some : goal.bounds-self-child-in-Some
bounds-self-child-in-Some g c =
    let t = c.args.self.now.table in
    omega (arith, child_known (shape_sound t) c.args.node _ _ c.loop-next.next c.loop-next.invariant.cleared c.in-Some.child c.in-Some.is, t.few)

pub invariant_of-self-clause-in_step : goal.invariant_of-self-clause-in_step
invariant_of-self-clause-in_step g c =
    let t = c.args.self.now.table in
    let q = c.loop-next.self in
    let known = child_known (shape_sound t) c.args.node _ _ c.loop-next.next c.loop-next.invariant.cleared c.in-Some.child c.in-Some.is in
    stocked_same (shape_of q.table) q.loads c.in-Some.child _ (omega (arith, known, t.few, q.size)) _ q.in_step refl

pub invariant_of-self-clause-unused : goal.invariant_of-self-clause-unused
invariant_of-self-clause-unused g c =
    let t = c.args.self.now.table in
    let q = c.loop-next.self in
    let was = c.loop-next.invariant in
    let known = child_known (shape_sound t) c.args.node _ _ c.loop-next.next was.cleared c.in-Some.child c.in-Some.is in
    unused_set q.loads c.in-Some.child (class_count q.table) _ (omega (arith, known, ap class_count was.table)) q.unused

pub loop-next-smaller : goal.loop-next-smaller
loop-next-smaller g c =
    let was = c.loop-next.invariant in
    child_falls (shape_sound c.args.self.now.table) c.args.node _ _ c.loop-next.next was.cleared c.in-Some.child c.in-Some.is c.next_sibling-next.result
    (subst (λ u. c.next_sibling-next.result ≡ sibling_below u c.in-Some.child) was.table c.next_sibling-next.ensures)

pub loop-next-preserved : goal.loop-next-preserved
loop-next-preserved g c =
    let t = c.args.self.now.table in
    let q = c.loop-next.self in
    let was = c.loop-next.invariant in
    let known = child_known (shape_sound t) c.args.node _ _ c.loop-next.next was.cleared c.in-Some.child c.in-Some.is in
    record {
      table = was.table;
      kept = was.kept;
      cleared = clearing_more (shape_sound t) c.args.node _ _ c.loop-next.next was.cleared c.in-Some.child c.in-Some.is _ c.next_sibling-next.result (omega (arith, known, t.few, q.size)) refl
          (subst (λ u. c.next_sibling-next.result ≡ sibling_below u c.in-Some.child) was.table c.next_sibling-next.ensures);
    }

pub invariant_of-self-2-clause-in_step : goal.invariant_of-self-2-clause-in_step
invariant_of-self-2-clause-in_step g c =
    let q = c.loop-next.self in
    stocked_same (shape_of q.table) q.loads c.args.node _ (omega (arith, c.requires.known, c.args.self.now.table.few, q.size)) _ q.in_step refl

pub invariant_of-self-2-clause-unused : goal.invariant_of-self-2-clause-unused
invariant_of-self-2-clause-unused g c =
    let q = c.loop-next.self in
    unused_set q.loads c.args.node (class_count q.table) _ (omega (arith, c.requires.known, ap class_count c.loop-next.invariant.table)) q.unused

pub returns-clause-loads : goal.returns-clause-loads
returns-clause-loads g c =
    let t = c.args.self.now.table in
    let q = c.loop-next.self in
    clearing_all (shape_sound t) c.args.node _ _ c.loop-next.next c.loop-next.invariant.cleared c.in_default.is _ (omega (arith, c.requires.known, t.few, q.size)) refl

pub returns-clause-store : goal.returns-clause-store
returns-clause-store g c = c.loop-next.invariant.kept
