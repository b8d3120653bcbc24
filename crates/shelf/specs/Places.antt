-- What stands at the places of the lanes, and what it may cost.
use Rattle.std.specs.Prelude.{ℕ, zero, suc, ◌≤◌, List, [], ◌∷◌, ◌++◌}
use Rattle.std.specs.List.{AllByRecursion}
use Rattle.shelf.specs.Tables.{line}
use Rattle.shelf.specs.declared.table.LinkTable.{LinkTable}

-- what stands at a place, as a list of one; past the last place, of none
abbrev pub took : {X : Type 0} → List X → ℕ → List X
took [] p = []
took (x ∷ xs) zero = x ∷ []
took (x ∷ xs) (suc p) = took xs p

-- what stands at each of some places
abbrev pub items : {X : Type 0} → List X → List ℕ → List X
items xs [] = []
items xs (p ∷ ps) = took xs p ++ items xs ps

-- the items of a lane, the head first; no lane above 63 has any
abbrev pub lanes_of : {X : Type 0} → List X → LinkTable → ℕ → List X
lanes_of xs t j = items xs (line t j)

-- every item in a lane costs 1 to 65,535
abbrev pub Priced : {X : Type 0} → (X → ℕ) → (ℕ → List X) → Type 0
Priced costs lanes = (j : ℕ) → AllByRecursion (λ x. (1 ≤ costs x) × (costs x ≤ 65535)) (lanes j)
