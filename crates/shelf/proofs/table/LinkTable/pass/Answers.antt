use Rattle.std.proofs.Common.{◌<◌, Some, inl, inr, sym, refl, arith}
use Rattle.shelf.proofs.Lines.{chain_within}
use Rattle.shelf.proofs.Moves as moves
use Rattle.shelf.proofs.table.LinkTable.pass.Goals as goal
use Rattle.shelf.proofs.table.LinkTable.pass.Goals.{then-end-eq0, else-end-eq0}

pub bounds-self-place : goal.bounds-self-place
bounds-self-place c =
    let t = c.args.self.now in
    let p : c.in_ok-place.place < t.size = chain_within t c.args.from (Some c.in_ok-place.place) c.in_ok-place.ensures in
    omega arith

pub bounds-self-last : goal.bounds-self-last
bounds-self-last c = moves.last_in c.args.self.now c.args.from c.args.to c.in_ok-place.place c.if-end-eq0.head c.requires (sym c.in_ok-place.ensures)
    (elim c.if-end-eq0.branch [ then-end-eq0 w ↦ inl (w.if-end-eq0.true, w.head-is) | else-end-eq0 w ↦ inr (w.if-end-eq0.false, w.head-is) ])

pub returns-clause-after : goal.returns-clause-after
returns-clause-after c = record {
  within = chain_within c.args.self.now c.args.from (Some c.in_ok-place.place) c.in_ok-place.ensures;
  same = refl;
  chains = moves.chains c.args.self.now c.args.from c.args.to c.in_ok-place.place c.if-end-eq0.head c.requires (sym c.in_ok-place.ensures)
      (elim c.if-end-eq0.branch [ then-end-eq0 w ↦ inl (w.if-end-eq0.true, w.head-is) | else-end-eq0 w ↦ inr (w.if-end-eq0.false, w.head-is) ]);
}

pub invariant_of-self : goal.invariant_of-self
invariant_of-self c =
    let t = moves.after c.args.self.now c.args.from c.args.to c.in_ok-place.place c.if-end-eq0.head c.requires (sym c.in_ok-place.ensures)
    (elim c.if-end-eq0.branch [ then-end-eq0 w ↦ inl (w.if-end-eq0.true, w.head-is) | else-end-eq0 w ↦ inr (w.if-end-eq0.false, w.head-is) ]) in
    record { long = t.long; all = t.all; inside = t.inside; apart = t.apart; ends = t.ends }
