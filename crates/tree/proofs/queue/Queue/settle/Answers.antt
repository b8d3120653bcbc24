use Rattle.std.proofs.Common.{◌≡◌, ◌∙◌, refl, ap, subst, nat_eq, arith}
use Rattle.classes.specs.Tables.{class_count, shape_of, weight_of, node_above}
use Rattle.classes.proofs.Tables.{shape_sound}
use Rattle.tree.proofs.Paths.{next_known}
use Rattle.tree.proofs.Settling.{Settled, settling_none, settling_here, settling_more}
use Rattle.tree.proofs.queue.Queue.settle.Goals as goal

pub loop-next-init : goal.loop-next-init
loop-next-init g c =
    let t = c.args.self.now.table in
    record { table = refl; settled = settling_none (shape_of t) (weight_of t) c.args.closing.done c.args.closing.gone (shape_sound t) c.args.leaf c.requires.known c.args.self.now.loads }

pub settle_class-next-requires : goal.settle_class-next-requires
settle_class-next-requires g c =
    let t = c.args.self.now.table in
    let was = c.loop-next.invariant in
    record {
      known = omega (arith, ap class_count was.table, next_known (shape_sound t) c.args.leaf c.requires.known c.loop-next.next c.in-Some.class c.in-Some.is was.settled.0);
      room = rw (settling_here (shape_of t) (weight_of t) c.args.closing.done c.args.closing.gone (shape_sound t) c.args.leaf c.requires.known _ _ c.loop-next.next c.in-Some.class c.in-Some.is was.settled) (c.requires.room c.in-Some.class);
    }

pub loop-next-preserved : goal.loop-next-preserved
loop-next-preserved g c =
    let t = c.args.self.now.table in
    let was = c.loop-next.invariant in
    let made = c.settle_class-next.ensures in
    let (above, settled) = subst (λ u. (c.settle_class-next.result ≡ node_above u c.in-Some.class) × Settled (shape_of u) (weight_of u) c.args.closing.done c.args.closing.gone c.loop-next.self.loads c.settle_class-next.new.self.loads (nat_eq c.in-Some.class)) was.table (made.value, made.loads) in
    record {
      table = made.table ∙ was.table;
      settled = settling_more (shape_of t) (weight_of t) c.args.closing.done c.args.closing.gone (shape_sound t) c.args.leaf c.requires.known _ _ c.loop-next.next c.in-Some.class c.in-Some.is was.settled _ c.settle_class-next.result above settled;
    }
