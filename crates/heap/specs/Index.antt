-- Which classes stand, and where.
use Rattle.std.specs.Prelude.{◌≡◌, ℕ, ◌<◌, cond, List, Some, None, Option, ◌==◌, ◌≢◌, slice_index_or}
use Rattle.base.specs.declared.units.Parts.{Parts}
use Rattle.tags.specs.Held.{Held, with}
use Rattle.tags.specs.Order.{rank}
use Rattle.tags.specs.declared.number.Number.{Number}
use Rattle.heap.specs.declared.standings.Standing.{Standing}

-- what is read past the end: it does not stand
abbrev pub nowhere : Standing
nowhere = record { pair = None; place = 0 }

-- where class k stands
abbrev pub standing : List Standing → ℕ → Standing
standing rows k = slice_index_or rows k nowhere

-- group and tag as a pair of the store
abbrev pub plain : Option (Number × Parts) → Option (ℕ × Parts)
plain None = None
plain (Some p) = Some (p.0.value, p.1)

-- the pair of a class, if it stands
abbrev pub pair_of : Standing → Option (ℕ × Parts)
pair_of s = plain s.pair

-- the pair of class k
abbrev pub pair_at : List Standing → Held
pair_at rows k = pair_of (standing rows k)

-- the place of class k
abbrev pub place_at : List Standing → ℕ → ℕ
place_at rows k = (standing rows k).place

-- the group of a pair; 64, which is none, where there is no pair
abbrev pub group_or : Option (ℕ × Parts) → ℕ
group_or None = 64
group_or (Some p) = p.0

-- the tag of a pair; 0 where there is no pair
abbrev pub tag_or : Option (ℕ × Parts) → Parts
tag_or None = record { 0 = 0 }
tag_or (Some p) = p.1

-- the group that class k stands in
abbrev pub group_at : List Standing → ℕ → ℕ
group_at rows k = group_or (pair_at rows k)

-- the rank of class k
abbrev pub rank_at : List Standing → ℕ → ℕ
rank_at rows k = rank (tag_or (pair_at rows k)) k

-- class k alone now stands as o says
pub record Puts (rows rows' : List Standing) (k : ℕ) (o : Standing) : Type 0 where
  pub pairs : pair_at rows' ≡ with (pair_at rows) k (pair_of o)
  pub place : place_at rows' k ≡ o.place
  pub places : (j : ℕ) → (j ≢ k) → place_at rows' j ≡ place_at rows j

-- class k is now at place i, and nothing else has changed
pub record Moves (rows rows' : List Standing) (k i : ℕ) : Type 0 where
  pub pairs : pair_at rows' ≡ pair_at rows
  pub place : place_at rows' k ≡ i
  pub places : (j : ℕ) → (j ≢ k) → place_at rows' j ≡ place_at rows j

-- f with its values at i and j exchanged
abbrev pub exchanged : (ℕ → ℕ) → ℕ → ℕ → ℕ → ℕ
exchanged f i j k = cond (k == i) (f j) (cond (k == j) (f i) (f k))

-- the heaps list each class that stands once, and nothing else. grp: the group of each class, 64 for none; spot: its place; len: how many stand in each group; cell: who stands at each place
pub record Index (grp spot len : ℕ → ℕ) (cell : ℕ → ℕ → ℕ) : Type 0 where
  -- who is at a used place of the heap of a group stands in that group, at that place
  pub placed : (g i : ℕ) → i < len g → (grp (cell g i) ≡ g) × (spot (cell g i) ≡ i)
  -- who stands is found at its place
  pub found : (k : ℕ) → grp k < 64 → (spot k < len (grp k)) × (cell (grp k) (spot k) ≡ k)
