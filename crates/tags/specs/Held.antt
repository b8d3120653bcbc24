-- What a tag store means: for each class its group and its tag, or none.
use Rattle.std.specs.Prelude.{◌≡◌, ℕ, zero, suc, ◌<◌, ◌≤◌, Bool, true, false, cond, ◌&&◌, Some, None, Option, ◌==◌, ◌≢◌, nat_lt}
use Rattle.base.specs.declared.units.Parts.{Parts}

abbrev pub Held : Type 0
Held = ℕ → Option (ℕ × Parts)

-- a class that stands is below 64, and so is its group
abbrev pub Small : Held → Type 0
Small h = (k g : ℕ) (t : Parts) → h k ≡ Some (g, t) → (k < 64) × (g < 64)

-- no class stands in a pair
abbrev pub nothing : Held
nothing k = None

-- the class c alone is set to o
abbrev pub with : Held → ℕ → Option (ℕ × Parts) → Held
with h c o k = cond (k == c) o (h k)

-- the tag of a pair
abbrev pub tag_of : Option (ℕ × Parts) → Option Parts
tag_of None = None
tag_of (Some p) = Some p.1

-- the class has no pair
abbrev pub free : Option (ℕ × Parts) → Bool
free None = true
free (Some p) = false

-- a pair may be put: group and class are below 64 and the class is free
abbrev pub may_put : Held → ℕ → ℕ → Bool
may_put h g c = nat_lt g 64 && (nat_lt c 64 && free (h c))

-- class k with tag t against the best so far: a lower tag wins, and at equal tags the best so far stays
abbrev pub lower : ℕ → Parts → Option (ℕ × Parts) → Option (ℕ × Parts)
lower k t None = Some (k, t)
lower k t (Some b) = cond (nat_lt t.0 b.1.0) (Some (k, t)) (Some b)

-- the same for what class k has: a pair of another group, or none, changes nothing
abbrev pub better : ℕ → ℕ → Option (ℕ × Parts) → Option (ℕ × Parts) → Option (ℕ × Parts)
better g k None best = best
better g k (Some p) best = cond (p.0 == g) (lower k p.1 best) best

-- class and tag of the least of group g among the classes below n, from class 0 up
abbrev pub among : Held → ℕ → ℕ → Option (ℕ × Parts)
among h g zero = None
among h g (suc n) = better g n (h n) (among h g n)

-- of group g the pair with the least tag, then the lowest class (no `abbrev`, since at 64 that would compute to 64 steps)
unfoldable pub least_of : Held → ℕ → Option (ℕ × Parts)
least_of h g = among h g 64

-- the same in words: the class c stands in group g with tag t, and no other class below n of the group has a lower tag, or the same tag and a lower number
pub record Least (h : Held) (g c : ℕ) (t : Parts) (n : ℕ) : Type 0 where
  pub stands : h c ≡ Some (g, t)
  pub known : c < n
  pub least : (k : ℕ) (u : Parts) → k < n → h k ≡ Some (g, u) → t.0 ≤ u.0
  pub first : (k : ℕ) (u : Parts) → k < n → h k ≡ Some (g, u) → u.0 ≡ t.0 → c ≤ k

-- what looking for the least among the classes below n finds: none exactly when none of them stands in the group
abbrev pub Looks : Held → ℕ → ℕ → Option (ℕ × Parts) → Type 0
Looks h g n None = (k : ℕ) (u : Parts) → k < n → h k ≢ Some (g, u)
Looks h g n (Some p) = Least h g p.0 p.1 n
