-- What a link table means: the places of each lane in order, and the free places.
use Rattle.std.specs.Prelude.{◌≡◌, ℕ, ◌<◌, cond, List, [], ◌∷◌, ◌++◌, drop, Some, ◌==◌, nat_lt}
use Rattle.shelf.specs.Chains.{chain, moved, first}
use Rattle.shelf.specs.declared.table.LinkTable.{LinkTable}

-- the places of a lane; no lane above 63 has any
abbrev pub line : LinkTable → ℕ → List ℕ
line t k = cond (nat_lt k 64) (chain t.next t.chains k) []

-- the free places
abbrev pub spare : LinkTable → List ℕ
spare t = chain t.next t.chains 64

-- place p, the first of chain `from`, went to the end of chain `to`
pub record Passed (t t' : LinkTable) (from to p : ℕ) : Type 0 where
  pub within : p < t.size
  pub same : t'.size ≡ t.size
  pub chains : (j : ℕ) → chain t'.next t'.chains j ≡ moved (chain t.next t.chains) from to p j

-- place p, the first free one, went to the end of a lane
pub record Claimed (t t' : LinkTable) (lane p : ℕ) : Type 0 where
  pub was : first (spare t) ≡ Some p
  pub within : p < t.size
  pub same : t'.size ≡ t.size
  pub lines : (j : ℕ) → line t' j ≡ cond (j == lane) (line t j ++ p ∷ []) (line t j)
  pub spares : spare t' ≡ drop 1 (spare t)

-- place p, the first of a lane, became the last free one
pub record Released (t t' : LinkTable) (lane p : ℕ) : Type 0 where
  pub was : first (line t lane) ≡ Some p
  pub within : p < t.size
  pub same : t'.size ≡ t.size
  pub lines : (j : ℕ) → line t' j ≡ cond (j == lane) (drop 1 (line t j)) (line t j)
  pub spares : spare t' ≡ spare t ++ p ∷ []
