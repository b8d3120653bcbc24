-- Chains of places: a chain has `len` places, from `head` on by `next`.
use Rattle.std.specs.Prelude.{◌≡◌, ℕ, zero, suc, ◌-◌, ◌<◌, cond, List, [], ◌∷◌, ◌++◌, drop, Some, None, Option, ◌==◌, slice_index, slice_index_or}
use Rattle.shelf.specs.declared.table.Chain.{Chain}

-- n places from p on
abbrev pub walk : List ℕ → ℕ → ℕ → List ℕ
walk next zero p = []
walk next (suc n) p = p ∷ walk next n (slice_index next p)

-- chain k of some chains
abbrev pub row : List Chain → ℕ → Chain
row chains k = slice_index_or chains k (record { head = 0; tail = 0; len = 0 })

module _ (next : List ℕ) (chains : List Chain) where
  -- the places of chain k
  abbrev pub chain : ℕ → List ℕ
  chain k = walk next (row chains k).len (row chains k).head

  -- the place that stands at i in chain k
  abbrev pub spot : ℕ → ℕ → ℕ
  spot k i = slice_index (walk next (row chains k).len (row chains k).head) i

  -- every place in a chain is below the size
  abbrev pub Inside : ℕ → Type 0
  Inside size = (k i : ℕ) → i < (row chains k).len → spot k i < size

  -- no place stands twice: places that are equal stand in one chain, at one position
  -- (one binder over a tuple, since a ghost field is seen to be a proposition at most about five steps deep)
  abbrev pub Apart : Type 0
  Apart = (q : ℕ × ℕ × ℕ × ℕ) → (q.1 < (row chains q.0).len) × (q.3 < (row chains q.2).len) × (spot q.0 q.1 ≡ spot q.2 q.3) → (q.0 ≡ q.2) × (q.1 ≡ q.3)

  -- the tail of a chain is its last place
  abbrev pub Ends : Type 0
  Ends = (k : ℕ) → 0 < (row chains k).len → (row chains k).tail ≡ spot k ((row chains k).len - 1)

-- what chain j is once the first place of chain `from`, p, went to the end of chain `to`
abbrev pub moved : (ℕ → List ℕ) → ℕ → ℕ → ℕ → ℕ → List ℕ
moved c from to p j = cond (j == to) (c to ++ p ∷ []) (cond (j == from) (drop 1 (c from)) (c j))

-- the first of a list, if there is one
abbrev pub first : {X : Type 0} → List X → Option X
first [] = None
first (x ∷ xs) = Some x
