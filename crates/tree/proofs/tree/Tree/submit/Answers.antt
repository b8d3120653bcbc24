-- A submission is a step of the rules. Assumes nothing.
use Rattle.std.proofs.Common.{rules, ℕ, Err, ◌<◌, ◌≤◌, sym, refl, ap, ◌∙◌, subst, arith}
use Rattle.std.proofs.lemmas.Grind.{common_steps}
use Rattle.classes.specs.Tables.{class_count, shape_of}
use Rattle.classes.proofs.Tables.{shape_sound}
use Rattle.rules.proofs.Bounds.{laws_met}
use Rattle.shelf.specs.Lanes.{free}
use Rattle.tree.specs.Counts.{queued, Counted}
use Rattle.tree.specs.Turns.{serving}
use Rattle.tree.proofs.Counts.{few_waiting}
use Rattle.tree.proofs.Exits.{lasting, refused_by}
use Rattle.tree.proofs.Shelves.{put_refused, put_done}
use Rattle.tree.proofs.Submissions.{woken_within, woken_counted, woken_few, woken_some, no_place, lane_room, enters}
use Rattle.tree.proofs.tree.Tree.submit.Goals as goal

pub returns-then-class-len-clause-lawful : goal.returns-then-class-len-clause-lawful
returns-then-class-len-clause-lawful g c = lasting _ _ (laws_met g.met.I.Item) (λ w. search rules)

pub returns-then-not-is_leaf-clause-lawful : goal.returns-then-not-is_leaf-clause-lawful
returns-then-not-is_leaf-clause-lawful g c = lasting _ _ (laws_met g.met.I.Item) (λ w. search rules)

pub returns-then-not-contains-clause-lawful : goal.returns-then-not-contains-clause-lawful
returns-then-not-contains-clause-lawful g c = lasting _ _ (laws_met g.met.I.Item) (λ w. grind (arith, common_steps))

pub returns-then-not-matches-clause-lawful : goal.returns-then-not-matches-clause-lawful
returns-then-not-matches-clause-lawful g c = lasting _ _ (laws_met g.met.I.Item) (λ w. search rules)

pub returns-in_err-put-clause-steps : goal.returns-in_err-put-clause-steps
returns-in_err-put-clause-steps g c =
    let priced : (1 ≤ g.I.Item.costs c.args.item) × (g.I.Item.costs c.args.item ≤ 65535) = search rules in
    let t = c.args.self.now in
    let sh = c.args.shelf.now in
    let known : c.args.class < class_count t.queue.table = omega (arith, c.len.ensures) in
    let (full, none) = put_refused c.args.class (g.I.Item.costs c.args.item) (free sh) (omega (arith, t.queue.table.few)) priced.0 priced.1 c.in_err-put.field-0.0 c.in_err-put.ensures.answer in
    let same = c.in_err-put.ensures.refused refl in
    let is = refused_by c.from_residual.result c.in_err-put.field-0.0 c.from_residual.ensures.1 ∙ ap Err full in
    λ w.
    rw (is, same) (no_place g.I.Item t sh c.args.class c.args.item known (sym c.if-not-is_leaf.ensures) priced.0 priced.1 c.if-not-matches.ensures none w)

pub returns-in_err-put-clause-lawful : goal.returns-in_err-put-clause-lawful
returns-in_err-put-clause-lawful g c = lasting _ _ (laws_met g.met.I.Item) (returns-in_err-put-clause-steps g c)

pub wake-requires-clause-room : goal.wake-requires-clause-room
wake-requires-clause-room g c =
    let t = c.args.self.now in
    λ k. omega (arith, t.counted k, few_waiting (shape_of t.queue.table) t.queue.loads k t.queue.table.few t.few)

pub invariant_of-self : goal.invariant_of-self
invariant_of-self g c =
    let priced : (1 ≤ g.I.Item.costs c.args.item) × (g.I.Item.costs c.args.item ≤ 65535) = search rules in
    let t = c.args.self.now in
    let shape = shape_of t.queue.table in
    let ls = t.queue.loads in
    let ms = c.wake.new.self.loads in
    let loads = c.wake.ensures.loads in
    let ok = shape_sound t.queue.table in
    let known : c.args.class < class_count t.queue.table = omega (arith, c.len.ensures) in
    let end = sym c.if-not-is_leaf.ensures in
    let some = put_done c.args.class (g.I.Item.costs c.args.item) (free c.args.shelf.now) (omega (arith, t.queue.table.few)) priced.0 priced.1 c.in_ok-put.field-0 c.in_ok-put.ensures.answer in
    let low = lane_room g.I.Item t c.args.shelf.now c.args.class c.args.item known end priced.0 priced.1 c.if-not-matches.ensures some in
    let (counted, few) = subst (λ u. Counted (shape_of u) ms × ((k : ℕ) → queued (shape_of u) ms k ≤ 256)) (sym c.wake.ensures.table)
    (woken_counted shape ls ms c.args.class loads ok t.counted known end, woken_few shape ls ms c.args.class loads ok t.counted known end low t.few) in
    record {
      counted = counted;
      few = few;
      tagged = woken_within shape ls ms c.args.class loads _ t.tagged;
      rooted = ap (λ l. l.start.0) (loads 0) ∙ t.rooted;
      served = λ is. subst (λ u. 0 < queued (shape_of u) ms (serving t.phase).leaf) (sym c.wake.ensures.table) (woken_some shape ls ms c.args.class loads ok t.counted known end _ (t.served is));
      within = t.within;
      metered = t.metered;
      given = t.given;
    }

pub returns-clause-steps : goal.returns-clause-steps
returns-clause-steps g c =
    let priced : (1 ≤ g.I.Item.costs c.args.item) × (g.I.Item.costs c.args.item ≤ 65535) = search rules in
    let t = c.args.self.now in
    let sh = c.args.shelf.now in
    let known : c.args.class < class_count t.queue.table = omega (arith, c.len.ensures) in
    let some = put_done c.args.class (g.I.Item.costs c.args.item) (free sh) (omega (arith, t.queue.table.few)) priced.0 priced.1 c.in_ok-put.field-0 c.in_ok-put.ensures.answer in
    enters g.I.Item t sh c.args.class c.args.item known (sym c.if-not-is_leaf.ensures) priced.0 priced.1 c.if-not-matches.ensures some
    c.put.new.self c.wake.new.self c.wake.ensures.table c.in_ok-put.ensures.room c.in_ok-put.ensures.lanes c.wake.ensures.loads

pub returns-clause-lawful : goal.returns-clause-lawful
returns-clause-lawful g c = lasting _ _ (laws_met g.met.I.Item) (returns-clause-steps g c)
