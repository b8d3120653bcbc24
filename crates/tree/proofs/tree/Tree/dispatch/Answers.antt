-- A dispatch is a step of the rules. Assumes nothing.
use Rattle.std.proofs.Common.{rules, ℕ, ◌+◌, ◌<◌, ◌≤◌, ◌⊎◌, sym, ap, ◌∙◌, subst, inl, inr, ⊎_elim, arith}
use Rattle.base.specs.declared.refusal.Refusal.TheVariants.{NothingBacklogged, LaneMismatch}
use Rattle.classes.specs.Tables.{shape_of, weight_of}
use Rattle.classes.proofs.Tables.{shape_sound}
use Rattle.rules.specs.Rules.{dispatch, granted, Step}
use Rattle.rules.proofs.Bounds.{laws_met}
use Rattle.shelf.specs.Lanes.{lanes, room}
use Rattle.tree.specs.Counts.{queued, Counted}
use Rattle.tree.specs.States.{state}
use Rattle.tree.specs.Trees.{state_of}
use Rattle.tree.specs.declared.phase.Phase.TheVariants.{Open}
use Rattle.tree.proofs.Counts.{queue_known}
use Rattle.tree.proofs.Exits.{lasting, refused_none}
use Rattle.tree.proofs.Shelves.{head_counted}
use Rattle.tree.proofs.Dispatches.{advanced_queued, advanced_counted, advanced_within, none_waits, chooses, unmatched, used_up, goes}
use Rattle.tree.proofs.tree.Tree.dispatch.Goals as goal

pub returns-in_default-clause-lawful : goal.returns-in_default-clause-lawful
returns-in_default-clause-lawful g c = lasting _ _ (laws_met g.met.I.Item) (λ w. search rules)

pub returns-in_err-leaf-clause-steps : goal.returns-in_err-leaf-clause-steps
returns-in_err-leaf-clause-steps g c w =
    let none = c.in_err-leaf.ensures in
    rw (refused_none c.from_residual.result _ c.from_residual.ensures.1 c.pick.result NothingBacklogged none.ok_part none.value)
    (none_waits g.I.Item c.args.self.now c.args.shelf.now c.in-Free.is (sym none.ok_part ∙ c.pick.ensures) w)

pub returns-in_err-leaf-clause-lawful : goal.returns-in_err-leaf-clause-lawful
returns-in_err-leaf-clause-lawful g c = lasting _ _ (laws_met g.met.I.Item) (returns-in_err-leaf-clause-steps g c)

pub returns-in_err-item-clause-steps : goal.returns-in_err-item-clause-steps
returns-in_err-item-clause-steps g c w =
    let none = c.in_err-item.ensures in
    rw (refused_none c.from_residual-in_err-item.result _ c.from_residual-in_err-item.ensures.1 c.head.result LaneMismatch none.ok_part none.value)
    (unmatched g.I.Item c.args.self.now c.args.shelf.now c.in-Free.is _ (sym c.in_ok-leaf.ensures.ok_part ∙ c.pick.ensures) (sym none.ok_part ∙ c.head.ensures) w)

pub returns-in_err-item-clause-lawful : goal.returns-in_err-item-clause-lawful
returns-in_err-item-clause-lawful g c = lasting _ _ (laws_met g.met.I.Item) (returns-in_err-item-clause-steps g c)

pub returns-then-meter-gt-LIMIT-clause-steps : goal.returns-then-meter-gt-LIMIT-clause-steps
returns-then-meter-gt-LIMIT-clause-steps g c =
    let t = c.args.self.now in
    let x = g.I.Item.costs c.in_ok-item.item in
    let past : (1000000000000 < t.meter.0 + x) ⊎ (1000000000000 < t.turns + 1) = ⊎_elim (λ l. inl (omega (arith, c.get.ensures, c.from.ensures, c.cost-cost.ensures))) (λ l. inr l.1) c.then-meter-gt-LIMIT.either in
    let step = used_up g.I.Item t c.args.shelf.now c.in-Free.is in
    let to = (sym c.in_ok-leaf.ensures.ok_part ∙ c.pick.ensures) in
    step _ to _ (sym c.in_ok-item.ensures.ok_part ∙ c.head.ensures) past

pub returns-then-meter-gt-LIMIT-clause-lawful : goal.returns-then-meter-gt-LIMIT-clause-lawful
returns-then-meter-gt-LIMIT-clause-lawful g c = lasting _ _ (laws_met g.met.I.Item) (returns-then-meter-gt-LIMIT-clause-steps g c)

pub advance-requires : goal.advance-requires
advance-requires g c =
    let t = c.args.self.now in
    let some = head_counted (lanes c.args.shelf.now c.in_ok-leaf.leaf) (queued (shape_of t.queue.table) t.queue.loads c.in_ok-leaf.leaf) c.in_ok-item.item (sym c.in_ok-item.ensures.ok_part ∙ c.head.ensures) in
    record { known = queue_known (shape_of t.queue.table) t.queue.loads t.counted (shape_sound t.queue.table) c.in_ok-leaf.leaf some }

pub invariant_of-self : goal.invariant_of-self
invariant_of-self g c =
    let t = c.args.self.now in
    let shape = shape_of t.queue.table in
    let ls = t.queue.loads in
    let ms = c.advance.new.self.loads in
    let leaf = c.in_ok-leaf.leaf in
    let moved = c.advance.ensures.loads in
    let some = head_counted (lanes c.args.shelf.now leaf) (queued shape ls leaf) c.in_ok-item.item (sym c.in_ok-item.ensures.ok_part ∙ c.head.ensures) in
    let known = queue_known shape ls t.counted (shape_sound t.queue.table) leaf some in
    let (counted, few, served) = subst (λ u. Counted (shape_of u) ms × ((k : ℕ) → queued (shape_of u) ms k ≤ 256) × (0 < queued (shape_of u) ms leaf)) (sym c.advance.ensures.table) (
      advanced_counted shape ls ms leaf moved t.counted,
      λ k. subst (λ n. n ≤ 256) (sym (advanced_queued shape ls ms leaf moved k)) (t.few k),
      subst (λ n. 0 < n) (sym (advanced_queued shape ls ms leaf moved leaf)) some,
    ) in
    record {
      counted = counted;
      few = few;
      tagged = advanced_within shape ls ms leaf moved (shape_sound t.queue.table) known _ t.tagged;
      rooted = ap (λ p. p.0) (moved.same 0).1 ∙ t.rooted;
      served = λ _. served;
      within = omega arith;
      metered = omega (arith, c.get.ensures, c.from.ensures);
      given = omega arith;
    }

pub returns-clause-steps : goal.returns-clause-steps
returns-clause-steps g c =
    let t = c.args.self.now in
    let q = c.advance.new.self in
    let sh = c.args.shelf.now in
    let leaf = c.in_ok-leaf.leaf in
    let moved = c.advance.ensures.loads in
    let is = c.cost-cost.ensures in
    let low : t.meter.0 + g.I.Item.costs c.in_ok-item.item ≤ 1000000000000 = omega (arith, c.get.ensures, c.from.ensures) in
    let few : t.turns < 1000000000000 = omega arith in
    let told = λ (w : ℕ).
    let step = goes g.I.Item t sh c.in-Free.is leaf (sym c.in_ok-leaf.ensures.ok_part ∙ c.pick.ensures) c.in_ok-item.item (sym c.in_ok-item.ensures.ok_part ∙ c.head.ensures) low few c.advance.new.self c.advance.ensures.table moved w in
    subst (λ x. Step g.I.Item (state_of t sh w) dispatch (granted (record { house = t.house; turn = t.turns + 1 }) leaf x) (state t.house (shape_of q.table) (weight_of q.table) q.loads (Open leaf x 0) t.meter.0 (t.turns + 1) (room sh) (lanes sh) w)) (sym is) step in
    told

pub returns-clause-lawful : goal.returns-clause-lawful
returns-clause-lawful g c = lasting _ _ (laws_met g.met.I.Item) (returns-clause-steps g c)

pub returns-clause-chosen : goal.returns-clause-chosen
returns-clause-chosen g c = chooses g.I.Item c.args.self.now c.args.shelf.now c.in-Free.is c.in_ok-leaf.leaf (sym c.in_ok-leaf.ensures.ok_part ∙ c.pick.ensures)
