use Rattle.std.proofs.Common.{◌≡◌, Some, None, refl, subst, arith}
use Rattle.classes.specs.Tables.{class_count, shape_of, node_above}
use Rattle.classes.proofs.Tables.{shape_sound}
use Rattle.tree.proofs.Paths.{above_some}
use Rattle.tree.proofs.Advancing.{advancing_none, advancing_more, advancing_all}
use Rattle.tree.proofs.Stocks.{stocked_same}
use Rattle.tree.proofs.Writes.{unused_set}
use Rattle.tree.proofs.queue.Queue.advance.Goals as goal

pub loop-node-init : goal.loop-node-init
loop-node-init g c = record { table = refl; kept = refl; moved = advancing_none (shape_sound c.args.self.now.table) c.args.leaf c.requires.known c.args.self.now.loads }

pub invariant_of-self-clause-in_step : goal.invariant_of-self-clause-in_step
invariant_of-self-clause-in_step g c =
    let q = c.loop-node.self in
    let (pos, known, is) = above_some (shape_of q.table) c.loop-node.class c.in-Some.node c.in-Some.ensures in
    stocked_same (shape_of q.table) q.loads c.in-Some.node _ (omega (arith, q.table.well_formed.earlier c.loop-node.class pos, q.table.few, q.size)) _ q.in_step refl

pub invariant_of-self-clause-unused : goal.invariant_of-self-clause-unused
invariant_of-self-clause-unused g c =
    let q = c.loop-node.self in
    let (pos, known, is) = above_some (shape_of q.table) c.loop-node.class c.in-Some.node c.in-Some.ensures in
    unused_set q.loads c.in-Some.node (class_count q.table) _ (omega (arith, q.table.well_formed.earlier c.loop-node.class pos)) q.unused

pub loop-node-preserved : goal.loop-node-preserved
loop-node-preserved g c =
    let t = c.args.self.now.table in
    let q = c.loop-node.self in
    let was = c.loop-node.invariant in
    let (pos, known, is) = above_some (shape_of q.table) c.loop-node.class c.in-Some.node c.in-Some.ensures in
    record {
      table = was.table;
      kept = was.kept;
      moved = advancing_more (shape_sound t) c.args.leaf c.requires.known c.args.self.now.loads q.loads c.loop-node.class was.moved c.in-Some.node _
          (subst (λ u. Some c.in-Some.node ≡ node_above u c.loop-node.class) was.table c.in-Some.ensures) (omega (arith, q.table.well_formed.earlier c.loop-node.class pos, q.table.few, q.size)) refl;
    }

pub returns-clause-loads : goal.returns-clause-loads
returns-clause-loads g c =
    let was = c.loop-node.invariant in
    advancing_all (shape_sound c.args.self.now.table) c.args.leaf c.requires.known c.args.self.now.loads c.loop-node.self.loads c.loop-node.class was.moved
    (subst (λ u. None ≡ node_above u c.loop-node.class) was.table c.in_default.ensures)

pub returns-clause-store : goal.returns-clause-store
returns-clause-store g c = c.loop-node.invariant.kept
