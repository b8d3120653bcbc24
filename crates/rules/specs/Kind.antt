-- Item kinds, as the rules take them. Assumes nothing.
use Rattle.std.specs.Prelude.{◌≡◌, ℕ, ◌-◌, ◌<◌, true, false}
use Rattle.items.specs.declared.Item.{Ghosts}

-- what the trait of items means: what an item costs, whether it may stop after d units, and the item that is then left
abbrev pub Kind : Type 0 → Type 1
Kind = Ghosts

-- its four laws
pub record KindLaws {I : Type 0} (K : Kind I) : Type 0 where
  pub at_cost : (x : I) → K.stops x (K.costs x) ≡ true
  pub never_above : (x : I) (d : ℕ) → K.costs x < d → K.stops x d ≡ false
  pub left_costs : (x : I) (d : ℕ) → d < K.costs x → K.stops x d ≡ true → K.costs (K.left x d) ≡ K.costs x - d
  pub left_whole : (x : I) (d : ℕ) → K.stops x d ≡ false → K.left x d ≡ x
