use Rattle.std.proofs.Common.{◌≡◌, ℕ, ap, ◌∙◌, subst, arith}
use Rattle.classes.specs.Tables.{shape_of, weight_of}
use Rattle.tree.specs.Loads.{load}
use Rattle.tree.specs.Walks.{rested}
use Rattle.tree.proofs.Charging.{settled_busy, settled_idle}
use Rattle.tree.proofs.queue.Queue.settle_class.Goals as goal
use Rattle.tree.proofs.queue.Queue.settle_class.Goals.{then-self-class-eq0, else-self-class-eq0}

pub returns-clause-loads : goal.returns-clause-loads
returns-clause-loads g c k =
    let q = c.args.self.now in
    let charged = c.charge_class.new.self.loads in
    let was = c.charge_class.ensures in
    elim c.if-self-class-eq0.branch [
      | then-self-class-eq0 w ↦
          let rest = subst (λ u. (k : ℕ) → load w.rest.new.self.loads k ≡ rested (shape_of u) charged c.args.class k) was.table w.rest.ensures.loads in
          ap (λ r. load r.loads k) w.self-is
          ∙ settled_idle (shape_of q.table) (weight_of q.table) c.args.closing.done c.args.closing.gone q.loads c.args.class charged was.loads _ w.if-self-class-eq0.true rest k
      | else-self-class-eq0 w ↦
          ap (λ r. load r.loads k) w.self-is
          ∙ settled_busy (shape_of q.table) (weight_of q.table) c.args.closing.done c.args.closing.gone q.loads c.args.class charged was.loads (omega (arith, w.if-self-class-eq0.false)) k
    ]
