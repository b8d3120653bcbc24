-- The list of entries, its order, and what it means.
use Rattle.std.specs.Prelude.{◌≡◌, ℕ, ◌<◌, Bool, true, cond, not, ◌&&◌, ◌||◌, List, [], ◌∷◌, length, Some, None, Option, ◌==◌, ◌≢◌, nat_lt}
use Rattle.std.specs.List.{All, AllPairs, HoldsAt}
use Rattle.base.specs.declared.units.Parts.{Parts}
use Rattle.tags.specs.Held.{Held}
use Rattle.sorted.specs.declared.entry.Entry.{Entry}

-- a comes before b: by group, then by tag, then by class
abbrev pub precedes : Entry → Entry → Bool
precedes a b = nat_lt a.group.value b.group.value || (a.group.value == b.group.value && (nat_lt a.tag.0 b.tag.0 || (a.tag.0 == b.tag.0 && nat_lt a.class.value b.class.value)))

-- the classes of a and b differ
abbrev pub differ : Entry → Entry → Bool
differ a b = not (a.class.value == b.class.value)

-- each entry comes before each later one
abbrev pub InOrder : List Entry → Type 0
InOrder es = AllPairs (λ a b. precedes a b ≡ true) es

-- no class has two entries
abbrev pub Once : List Entry → Type 0
Once es = AllPairs (λ a b. differ a b ≡ true) es

-- the pair of an entry
abbrev pub pair : Entry → Option (ℕ × Parts)
pair e = Some (e.group.value, e.tag)

-- what the entries mean: group and tag of class k
abbrev pub held_in : List Entry → Held
held_in [] k = None
held_in (e ∷ es) k = cond (e.class.value == k) (pair e) (held_in es k)

-- class k has no entry
abbrev pub Missing : List Entry → ℕ → Type 0
Missing es k = All (λ e. e.class.value ≢ k) es

-- the place of class k among the entries, if it has one
abbrev pub Found : List Entry → ℕ → Option ℕ → Type 0
Found es k None = Missing es k
Found es k (Some p) = (p < length es) × HoldsAt (λ e. e.class.value ≡ k) es p
