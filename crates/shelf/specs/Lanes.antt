-- What a shelf means: for each lane the list of its items, and how many places are free.
use Rattle.std.specs.Prelude.{◌≡◌, ℕ, zero, suc, ◌+◌, Bool, cond, not, ◌&&◌, List, [], ◌∷◌, length, drop, Some, None, Ok, Err, Option, Result, ◌==◌, nat_le, nat_lt}
use Rattle.base.specs.declared.refusal.Refusal.{Refusal}
use Rattle.base.specs.declared.refusal.Refusal.TheVariants.{UnknownClass, BadCost, ShelfFull}
use Rattle.items.specs.declared.Item.{Ghosts}
use Rattle.shelf.specs.Places.{lanes_of}
use Rattle.shelf.specs.Tables.{spare}
use Rattle.shelf.specs.declared.shelf.Shelf.{Shelf}

-- the items of a lane, the head first; no lane above 63 has any
abbrev pub lanes : {I : Type 0} {K : Ghosts I} → Shelf I K → ℕ → List I
lanes s = lanes_of s.places.now s.table

-- how many places the shelf has
abbrev pub room : {I : Type 0} {K : Ghosts I} → Shelf I K → ℕ
room s = s.table.size

-- how many of them are free
abbrev pub free : {I : Type 0} {K : Ghosts I} → Shelf I K → ℕ
free s = length (spare s.table)

-- the memory past the first 256 places, which no shelf touches
abbrev pub beyond : {I : Type 0} {K : Ghosts I} → Shelf I K → List I
beyond s = drop 256 s.places.now

-- the shelf still holds the memory that it was lent, and past the first 256 places that is as it was
abbrev pub Lent : {I : Type 0} {K : Ghosts I} → Shelf I K → Shelf I K → Type 0
Lent s s' = (s'.places.ghost_name ≡ s.places.ghost_name) × (beyond s' ≡ beyond s)

-- f 0 + .. + f (n - 1)
abbrev pub sum_below : (ℕ → ℕ) → ℕ → ℕ
sum_below f zero = 0
sum_below f (suc n) = f n + sum_below f n

-- how many items stand in the lanes
unfoldable pub stored : {I : Type 0} {K : Ghosts I} → Shelf I K → ℕ
stored s = sum_below (λ j. length (lanes s j)) 64

-- what putting answers, by lane, cost and free places: the first check that fails
abbrev pub putting : ℕ → ℕ → ℕ → Result (Unit {0}) Refusal
putting lane cost free =
    cond (nat_le 64 lane) (Err UnknownClass)
    (cond (not (nat_le 1 cost && nat_le cost 65535)) (Err BadCost)
    (cond (free == 0) (Err ShelfFull)
    (Ok tt)))

-- what is left of the head of a lane after d units, where it may stop there with some of its cost to go
abbrev pub rest_of : {I : Type 0} → (I → ℕ) → (I → ℕ → Bool) → (I → ℕ → I) → List I → ℕ → Option I
rest_of costs stops left [] d = None
rest_of costs stops left (x ∷ xs) d = cond (nat_lt d (costs x) && stops x d) (Some (left x d)) None

-- a lane with another head, if there is one to take its place
abbrev pub headed : {I : Type 0} → Option I → List I → List I
headed None xs = xs
headed (Some y) [] = []
headed (Some y) (x ∷ xs) = y ∷ xs
