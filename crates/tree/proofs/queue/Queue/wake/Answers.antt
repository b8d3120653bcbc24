use Rattle.std.proofs.Common.{◌≡◌, ◌∙◌, refl, ap, subst, nat_eq, arith}
use Rattle.classes.specs.Tables.{class_count, shape_of, node_above}
use Rattle.classes.proofs.Tables.{shape_sound}
use Rattle.tree.proofs.Paths.{next_known}
use Rattle.tree.proofs.Waking.{Woke, waking_none, waking_here, waking_more}
use Rattle.tree.proofs.queue.Queue.wake.Goals as goal

pub loop-next-init : goal.loop-next-init
loop-next-init g c = let t = c.args.self.now.table in record { table = refl; woke = waking_none (shape_of t) (shape_sound t) c.args.leaf c.requires.known c.args.self.now.loads }

pub wake_class-next-requires : goal.wake_class-next-requires
wake_class-next-requires g c =
    let t = c.args.self.now.table in
    let was = c.loop-next.invariant in
    record {
      known = omega (arith, ap class_count was.table, next_known (shape_sound t) c.args.leaf c.requires.known c.loop-next.next c.in-Some.class c.in-Some.is was.woke.0);
      room = rw (waking_here (shape_of t) (shape_sound t) c.args.leaf c.requires.known _ _ c.loop-next.next c.in-Some.class c.in-Some.is was.woke) (c.requires.room c.in-Some.class);
    }

pub loop-next-preserved : goal.loop-next-preserved
loop-next-preserved g c =
    let t = c.args.self.now.table in
    let was = c.loop-next.invariant in
    let made = c.wake_class-next.ensures in
    let (above, woke) = subst (λ u. (c.wake_class-next.result ≡ node_above u c.in-Some.class) × Woke (shape_of u) c.loop-next.self.loads c.wake_class-next.new.self.loads (nat_eq c.in-Some.class)) was.table (made.value, made.loads) in
    record {
      table = made.table ∙ was.table;
      woke = waking_more (shape_of t) (shape_sound t) c.args.leaf c.requires.known _ _ c.loop-next.next c.in-Some.class c.in-Some.is was.woke _ c.wake_class-next.result above woke;
    }
