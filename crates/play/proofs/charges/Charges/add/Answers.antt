use Rattle.std.proofs.Common.{refl, arith}
use Rattle.classes.specs.Tables.{shape_of}
use Rattle.classes.proofs.Tables.{shape_sound}
use Rattle.tree.proofs.Paths.{next_known, next_new, walk_none, walk_more, walk_all, came}
use Rattle.play.proofs.Charging.{Charged, charging_more, way_falls}
use Rattle.play.proofs.charges.Charges.add.Goals as goal

pub loop-next-init : goal.loop-next-init
loop-next-init g c = λ known. walk_none (shape_sound c.args.tree.now.queue.table) c.args.leaf known (Charged c.args.self.now c.args.done.0 c.args.self.now) (λ k. refl)

pub loop-next-smaller : goal.loop-next-smaller
loop-next-smaller g c = way_falls (shape_sound c.args.tree.now.queue.table) c.loop-next.next c.in-Some.class c.in-Some.is c.parent-next.result c.parent-next.ensures

pub loop-next-preserved : goal.loop-next-preserved
loop-next-preserved g c = λ known.
    let table = c.args.tree.now.queue.table in
    let ok = shape_sound table in
    let leaf = c.args.leaf in
    let next = c.loop-next.next in
    let class = c.in-Some.class in
    let was = c.loop-next.invariant known in
    let below = next_known ok leaf known next class c.in-Some.is was.0 in
    walk_more ok leaf known next class c.in-Some.is was.0 (Charged c.args.self.now c.args.done.0 c.add_to.new.self) c.parent-next.result c.parent-next.ensures
    (charging_more c.args.self.now c.loop-next.self c.add_to.new.self c.args.done.0 (came (shape_of table) leaf next) class (next_new ok leaf known next class c.in-Some.is was.0).0 was.1 (c.add_to.ensures (omega (arith, below, table.few))))

pub returns : goal.returns
returns g c = λ known. walk_all (shape_sound c.args.tree.now.queue.table) c.args.leaf known (Charged c.args.self.now c.args.done.0 c.loop-next.self) c.loop-next.next c.in_default.is (c.loop-next.invariant known)
