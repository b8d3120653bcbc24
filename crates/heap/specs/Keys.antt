-- The heaps as functions of group and place.
use Rattle.std.specs.Prelude.{◌≡◌, ℕ, ◌≢◌}
use Rattle.tags.specs.Held.{Held}
use Rattle.heap.specs.declared.heaps.Heaps.{Heaps}
use Rattle.heap.specs.Cells.{size, cell}
use Rattle.heap.specs.Index.{pair_at, rank_at}

-- the pair of each class
abbrev pub pairs : Heaps → Held
pairs h = pair_at h.standings.rows

-- how many classes stand in group g
abbrev pub count : Heaps → ℕ → ℕ
count h g = size h.heaps g

-- the class at place i of the heap of group g
abbrev pub classes : Heaps → ℕ → ℕ → ℕ
classes h g i = cell h.heaps g i

-- its rank
abbrev pub keys : Heaps → ℕ → ℕ → ℕ
keys h g i = rank_at h.standings.rows (classes h g i)

-- nothing but the order within the heap of group g has changed from s to t
pub record Reordered (s t : Heaps) (g : ℕ) : Type 0 where
  pub others : (h i : ℕ) → (h ≢ g) → keys t h i ≡ keys s h i
  pub lens : (h : ℕ) → count t h ≡ count s h
  pub pairs : pairs t ≡ pairs s
