use Rattle.std.proofs.Common.{◌≡◌, ℕ, zero, suc, replicate, refl, ap}
use Rattle.classes.specs.Tables.{shape_of}
use Rattle.tree.specs.Loads.{load, no_load}
use Rattle.tree.proofs.Stocks.{stocked_none}
use Rattle.tree.proofs.queue.Queue.new.Goals as goal

none_everywhere : (n k : ℕ) → load (replicate n no_load) k ≡ no_load
none_everywhere zero k = refl
none_everywhere (suc n) zero = refl
none_everywhere (suc n) (suc k) = none_everywhere n k

pub invariant_of-result : goal.invariant_of-result
invariant_of-result g c = record {
  size = refl;
  in_step = stocked_none (shape_of c.args.table) (replicate 64 no_load) (none_everywhere 64) _ c.empty.ensures;
  unused = λ k _. ap (λ l. l.finish.0) (none_everywhere 64 k);
}

pub returns-clause-loads : goal.returns-clause-loads
returns-clause-loads g c = none_everywhere 64
