-- The root of an ordered heap is the least of its group. Assumes nothing.
use Rattle.std.proofs.Common.{◌≡◌, ℕ, zero, suc, ◌<◌, ◌≤◌, Some, None, Option, refl, ap, arith}
use Rattle.base.specs.declared.units.Parts.{Parts}
use Rattle.tags.specs.Held.{Least, Looks}
use Rattle.tags.proofs.Ranks.{least_by_rank}
use Rattle.tags.specs.declared.number.Number.{Number}
use Rattle.tags.proofs.Uses.{none_some}
use Rattle.heap.specs.declared.heaps.Heaps.{Heaps}
use Rattle.heap.specs.Index.{standing, plain, pair_at, place_at, group_or, tag_or, group_at, rank_at}
use Rattle.heap.specs.Keys.{count, classes, keys}
use Rattle.heap.specs.Order.{up, Ordered}
use Rattle.heap.proofs.Kept.{class_known}

-- by induction on the place, or a bound of it
root_below : (f : ℕ → ℕ) (n : ℕ) → Ordered f n → (b i : ℕ) → i ≤ b → i < n → f 0 ≤ f i
root_below f n o zero i h l = grind arith
root_below f n o (suc b) i h l = grind (arith, root_below f n o b (up i), o i)

root : (f : ℕ → ℕ) (n : ℕ) → Ordered f n → (i : ℕ) → i < n → f 0 ≤ f i
root f n o i l = root_below f n o i i (omega arith) l

-- a pair that has a group
some_of : (o : Option (ℕ × Parts)) (g : ℕ) → g < 64 → group_or o ≡ g → o ≡ Some (g, tag_or o)
some_of None g l e = absurd (omega arith)
some_of (Some p) g l e = ap (λ h. Some (h, p.1)) e

-- the group of a pair is below 64
small_of : (o : Option (Number × Parts)) (g : ℕ) (u : Parts) → plain o ≡ Some (g, u) → g < 64
small_of None g u e = absurd (none_some None g u refl e)
small_of (Some p) g u e = let m : p.0.value ≡ g = ap group_or e in let l = p.0.small in omega arith

module _ (h : Heaps) (g : ℕ) where
  -- a class of the group has a place in its heap
  pair_place : (k : ℕ) (u : Parts) → pair_at h.standings.rows k ≡ Some (g, u) → (place_at h.standings.rows k < count h g) × (classes h g (place_at h.standings.rows k) ≡ k)
  pair_place k u e = let m : group_at h.standings.rows k ≡ g = ap group_or e in grind (arith, m, small_of (standing h.standings.rows k).pair g u e, h.index.found k)

  pub empty_looks : (g < 64 → count h g ≡ 0) → Looks (pair_at h.standings.rows) g 64 None
  empty_looks none = λ k u l e. let p = (pair_place k u e).0 in let z = none (small_of (standing h.standings.rows k).pair g u e) in omega arith

  pub root_least : g < 64 → 0 < count h g → Ordered (keys h g) (count h g) → Least (pair_at h.standings.rows) g (classes h g 0) (tag_or (pair_at h.standings.rows (classes h g 0))) 64
  root_least gl some o =
      let held = pair_at h.standings.rows in
      least_by_rank held g (classes h g 0) (tag_or (held (classes h g 0))) (some_of (held (classes h g 0)) g gl (h.index.placed g 0 some).0) (class_known h g 0)
      (λ k u l e.
      let p = pair_place k u e in
      let low = root (keys h g) (count h g) o (place_at h.standings.rows k) p.0 in
      let same = ap (rank_at h.standings.rows) p.1 in
      let tag = ap (λ q. (tag_or q).0) e in
      omega arith)
