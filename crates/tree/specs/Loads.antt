-- The loads of the classes as a function of the class number, and what the store holds of them.
use Rattle.std.specs.Prelude.{◌≡◌, ℕ, cond, ◌&&◌, List, Some, None, Option, nat_lt, slice_index_or}
use Rattle.base.specs.declared.units.Parts.{Parts}
use Rattle.tags.specs.Held.{Held}
use Rattle.rules.specs.Shape.{Shape}
use Rattle.tree.specs.declared.load.Load.{Load}

-- nothing waits, and every tag is 0
abbrev pub no_load : Load
no_load = record { backlog = 0; start = record { 0 = 0 }; finish = record { 0 = 0 }; vtime = record { 0 = 0 } }

-- the load of class k; a number past the table has none
abbrev pub load : List Load → ℕ → Load
load ls k = slice_index_or ls k no_load

-- what stands in the store for class k: a backlogged class but the root, under its parent, with its start tag
abbrev pub stocked : Shape → List Load → ℕ → Option (ℕ × Parts)
stocked t ls k = cond (nat_lt 0 k && nat_lt 0 (load ls k).backlog) (Some (t.parent k, (load ls k).start)) None

-- the store holds, under each node's number, exactly its backlogged children with their start tags
abbrev pub Stocked : Shape → Held → List Load → Type 0
Stocked t h ls = (k : ℕ) → h k ≡ stocked t ls k
