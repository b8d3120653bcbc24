-- An ending is a step of the rules. Assumes nothing.
use Rattle.std.proofs.Common.{rules, ◌≡◌, ℕ, ◌<◌, ◌≤◌, true, sym, ap, ◌∙◌, subst, inl, inr, arith}
use Rattle.std.proofs.lemmas.Bool.{eqb-true, eqb-false}
use Rattle.classes.specs.Tables.{shape_of}
use Rattle.rules.specs.Rules.{end_turn, closed, settled, Step}
use Rattle.rules.specs.State.{put}
use Rattle.rules.proofs.Bounds.{laws_met}
use Rattle.shelf.specs.Lanes.{lanes, room}
use Rattle.tree.specs.Answers.{grant_of}
use Rattle.tree.specs.Counts.{queued}
use Rattle.tree.specs.Trees.{state_of}
use Rattle.tree.specs.Turns.{serving}
use Rattle.tree.proofs.Exits.{lasting}
use Rattle.tree.proofs.Shelves.{unread, head_full, head_read, all_done, some_left}
use Rattle.tree.proofs.Closings.{some, end_mismatch, no_stop, ends}
use Rattle.tree.proofs.tree.Tree.end.Goals as goal
use Rattle.tree.proofs.tree.Tree.end.Goals.{then-closing, else-closing}

pub returns-in_default-clause-lawful : goal.returns-in_default-clause-lawful
returns-in_default-clause-lawful g c = lasting _ _ (laws_met g.met.I.Item) (λ w. search rules)

pub returns-then-not-gave-clause-lawful : goal.returns-then-not-gave-clause-lawful
returns-then-not-gave-clause-lawful g c = lasting _ _ (laws_met g.met.I.Item) (λ w. search rules)

pub returns-in_default-head-clause-steps : goal.returns-in_default-head-clause-steps
returns-in_default-head-clause-steps g c =
    let t = c.args.self.now in
    let sh = c.args.shelf.now in
    let leaf = c.in-Open.leaf in
    let grant = grant_of c.args.grant in
    let has = some g.I.Item t grant leaf c.in-Open.cost c.in-Open.done c.in-Open.is c.if-not-gave.ensures sh in
    let off = unread (lanes sh leaf) (queued (shape_of t.queue.table) t.queue.loads leaf) has c.in_default-head.ensures in
    end_mismatch g.I.Item t grant leaf c.in-Open.cost c.in-Open.done c.in-Open.is c.if-not-gave.ensures sh (inl off)

pub returns-in_default-head-clause-lawful : goal.returns-in_default-head-clause-lawful
returns-in_default-head-clause-lawful g c = lasting _ _ (laws_met g.met.I.Item) (returns-in_default-head-clause-steps g c)

pub returns-then-cost-clause-steps : goal.returns-then-cost-clause-steps
returns-then-cost-clause-steps g c =
    let t = c.args.self.now in
    let sh = c.args.shelf.now in
    let leaf = c.in-Open.leaf in
    let (_, head) = head_full (lanes sh leaf) (queued (shape_of t.queue.table) t.queue.loads leaf) c.in-Some.item c.in-Some.ensures in
    let (costs, _) = head_read g.I.Item c.in-Some.item (lanes sh leaf) head in
    end_mismatch g.I.Item t (grant_of c.args.grant) leaf c.in-Open.cost c.in-Open.done c.in-Open.is c.if-not-gave.ensures sh (inr (λ e. c.if-cost.true (c.cost.ensures ∙ sym costs ∙ e)))

pub returns-then-cost-clause-lawful : goal.returns-then-cost-clause-lawful
returns-then-cost-clause-lawful g c = lasting _ _ (laws_met g.met.I.Item) (returns-then-cost-clause-steps g c)

pub returns-then-not-may_stop-clause-steps : goal.returns-then-not-may_stop-clause-steps
returns-then-not-may_stop-clause-steps g c =
    let t = c.args.self.now in
    let sh = c.args.shelf.now in
    let leaf = c.in-Open.leaf in
    let (full, head) = head_full (lanes sh leaf) (queued (shape_of t.queue.table) t.queue.loads leaf) c.in-Some.item c.in-Some.ensures in
    let (costs, stops) = head_read g.I.Item c.in-Some.item (lanes sh leaf) head in
    no_stop g.I.Item t (grant_of c.args.grant) leaf c.in-Open.cost c.in-Open.done c.in-Open.is c.if-not-gave.ensures sh full
    (costs ∙ sym c.cost.ensures ∙ c.if-cost.false) (stops c.in-Open.done ∙ sym c.if-not-may_stop.ensures)

pub returns-then-not-may_stop-clause-lawful : goal.returns-then-not-may_stop-clause-lawful
returns-then-not-may_stop-clause-lawful g c = lasting _ _ (laws_met g.met.I.Item) (returns-then-not-may_stop-clause-steps g c)

pub returns-clause-steps : goal.returns-clause-steps
returns-clause-steps g c =
    let K = g.I.Item in
    let t = c.args.self.now in
    let u = c.close.new.self in
    let sh = c.args.shelf.now in
    let sh' = c.if-closing.shelf in
    let leaf = c.in-Open.leaf in
    let cost = c.in-Open.cost in
    let done = c.in-Open.done in
    let item = c.in-Some.item in
    let is : c.new.result.0 ≡ done = c.new.ensures ∙ c.from.ensures in
    let (full, head) = head_full (lanes sh leaf) (queued (shape_of t.queue.table) t.queue.loads leaf) item c.in-Some.ensures in
    let (costs, stops) = head_read K item (lanes sh leaf) head in
    let price : K.costs item ≡ cost = sym c.cost.ensures ∙ c.if-cost.false in
    let may : K.stops item done ≡ true = sym c.if-not-may_stop.ensures in
    let within : done ≤ cost = subst (λ p. (serving p).done ≤ (serving p).cost) c.in-Open.is t.within in
    let worn : (room sh' ≡ room sh) × (lanes sh' ≡ put (lanes sh) leaf (settled K (lanes sh leaf) done)) = elim c.if-closing.branch [
      | then-closing w ↦ (ap room w.shelf-is ∙ w.remove.ensures.room, ap lanes w.shelf-is ∙ all_done K item (lanes sh) (lanes w.remove.new.self) leaf done head (eqb-true done cost w.if-closing.true ∙ sym price) w.remove.ensures.lanes)
      | else-closing w ↦
          let less : done < K.costs item = omega (arith, price, within, eqb-false done cost w.if-closing.false) in
          (ap room w.shelf-is ∙ w.leave_rest.ensures.room, ap lanes w.shelf-is ∙ some_left K item (lanes sh) (lanes w.leave_rest.new.self) leaf done head _ less may w.leave_rest.ensures.value w.leave_rest.ensures.lanes)
    ] in
    let step = ends K t (grant_of c.args.grant) leaf cost done c.in-Open.is c.if-not-gave.ensures sh full (costs ∙ price) (stops done ∙ may) u c.close.ensures sh' worn.0 worn.1 in
    λ (w : ℕ). subst (λ d. Step K (state_of t sh w) (end_turn (grant_of c.args.grant)) (closed d) (state_of u sh' w)) (sym is) (step w)

pub returns-clause-lawful : goal.returns-clause-lawful
returns-clause-lawful g c = lasting _ _ (laws_met g.met.I.Item) (returns-clause-steps g c)
