use Rattle.std.proofs.Common.{◌≡◌, ℕ, [], length, ap, inl, inr, rules, arith}
use Rattle.std.proofs.lemmas.Bool.{cases_lt}
use Rattle.std.proofs.lemmas.List.{get_or_past}
use Rattle.heap.specs.Cells.{row}
use Rattle.heap.specs.Index.{group_or, pair_of}
use Rattle.heap.proofs.heaps.Heaps.new.Goals as goal
use Rattle.heap.proofs.heaps.Heaps.new.Goals.{After-from_fn}

row_empty : (c : After-from_fn) (g : ℕ) → row c.from_fn.result g ≡ []
row_empty c g =
    elim (cases_lt g 64) [
      | inl known ↦ let made = (c.from_fn.ensures.items.at g (record { items = [] }) (omega arith)).2.met in search rules
      | inr past ↦ let long = c.from_fn.ensures.items.long in ap (λ v. v.items) (get_or_past c.from_fn.result g (record { items = [] }) (omega arith))
    ]

pub invariant_of-result-clause-index : goal.invariant_of-result-clause-index
invariant_of-result-clause-index c = record {
  placed = λ g i l. let n = ap length (row_empty c g) in absurd (omega arith);
  found = λ k l. let n = ap (λ o. group_or (pair_of o)) (c.new.ensures k) in absurd (omega arith);
}

pub returns : goal.returns
returns c = record {
  pairs = λ k. ap pair_of (c.new.ensures k);
  lens = λ g. ap length (row_empty (goal.at.returns c).After-from_fn g);
}
