-- The least of a group is the pair of the lowest rank. Assumes nothing.
use Rattle.std.proofs.Common.{◌≡◌, ℕ, ◌<◌, ◌≤◌, Some, arith}
use Rattle.base.specs.declared.units.Parts.{Parts}
use Rattle.tags.specs.Held.{Held, Least}
use Rattle.tags.specs.Order.{rank}

pub least_by_rank : (h : Held) (g c : ℕ) (t : Parts) → h c ≡ Some (g, t) → c < 64 → ((k : ℕ) (u : Parts) → k < 64 → h k ≡ Some (g, u) → rank t c ≤ rank u k) → Least h g c t 64
least_by_rank h g c t stands known low = record {
  stands = stands;
  known = known;
  least = λ k u l e. let r = low k u l e in omega arith;
  first = λ k u l e same. let r = low k u l e in omega arith;
}
