-- What a closing does to the loads keeps what the fields say. Assumes nothing.
use Rattle.std.proofs.Common.{◌≡◌, ℕ, ◌+◌, ◌*◌, ◌≤◌, false, sym, refl, ap, ◌∙◌, subst, arith}
use Rattle.std.proofs.lemmas.Bool.{both_ways}
use Rattle.classes.specs.Tables.{shape_of, weight_of}
use Rattle.classes.proofs.Tables.{shape_sound}
use Rattle.rules.specs.Laws.{Within}
use Rattle.tree.specs.Counts.{queued, Counted}
use Rattle.tree.specs.States.{tags}
use Rattle.tree.proofs.Counts.{leaves, queue_known}
use Rattle.tree.proofs.Closings.{settled_counted, settled_few, settled_within, settled_root}
use Rattle.tree.proofs.tree.Tree.close.Goals as goal

pub settle-requires-clause-known : goal.settle-requires-clause-known
settle-requires-clause-known g c =
    let t = c.args.self.now in
    queue_known (shape_of t.queue.table) t.queue.loads t.counted (shape_sound t.queue.table) c.args.leaf c.requires.some

pub invariant_of-self : goal.invariant_of-self
invariant_of-self g c =
    let t = c.args.self.now in
    let shape = shape_of t.queue.table in
    let weight = weight_of t.queue.table in
    let ls = t.queue.loads in
    let ms = c.settle.new.self.loads in
    let leaf = c.args.leaf in
    let done = c.args.closing.done in
    let gone = c.args.closing.gone in
    let loads = c.settle.ensures.loads in
    let ok = shape_sound t.queue.table in
    let known = queue_known shape ls t.counted ok leaf c.requires.some in
    let end = leaves shape ls leaf c.requires.some in
    let (counted, few) = subst (λ u. Counted (shape_of u) ms × ((k : ℕ) → queued (shape_of u) ms k ≤ 256)) (sym c.settle.ensures.table)
    (settled_counted shape weight ls ms leaf done gone loads ok t.counted known end (λ _. c.requires.some), settled_few shape weight ls ms leaf done gone loads ok t.counted known end (λ _. c.requires.some) t.few) in
    let sum : c.add-self.result.0 ≡ t.meter.0 + done = omega (arith, c.add-self.ensures, c.new.ensures, c.from.ensures) in
    record {
      counted = counted;
      few = few;
      tagged = subst (λ m. Within (tags ms) (720720 * m)) (sym sum) (settled_within shape weight ls ms leaf done gone loads t.meter.0 t.tagged);
      rooted = ap (λ p. p.0) (settled_root shape weight ls ms leaf done gone loads) ∙ t.rooted;
      served = λ e. absurd (both_ways false refl e);
      within = omega arith;
      metered = omega (arith, sum, c.requires.room);
      given = t.given;
    }
