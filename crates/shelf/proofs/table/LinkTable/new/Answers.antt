use Rattle.std.proofs.Common.{rules, ◌≡◌, ℕ, ◌+◌, ◌<◌, ◌≤◌, get_or, ◌∙◌, arith}
use Rattle.shelf.proofs.Walks.{length_walk}
use Rattle.shelf.proofs.Fresh.{table, empty}
use Rattle.shelf.proofs.table.LinkTable.new.Goals as goal
use Rattle.shelf.proofs.table.LinkTable.new.Goals.{After-from_fn}

few : (c : After-from_fn) → c.min-size.result ≤ 256
few c = omega (arith, c.min-size.ensures)

up : (c : After-from_fn) (k : ℕ) → k < 256 → get_or c.from_fn.result k 0 ≡ k + 1
up c k l = let h = c.from_fn.ensures.items.at k 0 l in search rules

pub invariant_of-result : goal.invariant_of-result
invariant_of-result c =
    let at = (goal.at.invariant_of-result c).After-from_fn in
    let t = table c.from_fn.result _ _ c.from_fn.ensures.items.long (up at) (few at) c.saturating_sub.ensures in
    record { long = t.long; all = t.all; inside = t.inside; apart = t.apart; ends = t.ends }

pub returns-clause-spare : goal.returns-clause-spare
returns-clause-spare c = length_walk _ _ _ ∙ c.min-size.ensures

pub returns-clause-lines : goal.returns-clause-lines
returns-clause-lines c =
    let at = (goal.at.returns-clause-lines c).After-from_fn in
    empty c.from_fn.result _ _ c.from_fn.ensures.items.long (up at) (few at) c.saturating_sub.ensures
