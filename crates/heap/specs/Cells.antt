-- What the heaps hold.
use Rattle.std.specs.Prelude.{ℕ, List, [], length, slice_index_or}
use Rattle.std.proofs.Common.{lit<}
use Rattle.arrayvec.specs.ArrayVec.{ArrayVec}
use Rattle.tags.specs.declared.number.Number.{Number}

-- what is read past the end
abbrev pub zero : Number
zero = record { value = 0; small = lit< tt }

-- the classes of group g, in order of their places
abbrev pub row : List (ArrayVec Number) → ℕ → List Number
row heaps g = (slice_index_or heaps g (record { items = [] })).items

-- how many classes stand in group g
abbrev pub size : List (ArrayVec Number) → ℕ → ℕ
size heaps g = length (row heaps g)

-- the class at place i of the heap of group g
abbrev pub cell : List (ArrayVec Number) → ℕ → ℕ → ℕ
cell heaps g i = (slice_index_or (row heaps g) i zero).value
