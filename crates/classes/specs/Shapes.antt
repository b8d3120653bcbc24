-- What a class table keeps of its shape: depths, and the list of each node's children.
use Rattle.std.specs.Prelude.{ℕ, zero, suc, cond, Some, None, Option, ◌==◌}
use Rattle.rules.specs.Shape.{Shape, child}

-- the steps from class c up to the root, of which no more than n are counted
abbrev pub steps : Shape → ℕ → ℕ → ℕ
steps t zero c = 0
steps t (suc n) c = cond (c == 0) 0 (suc (steps t n (t.parent c)))

-- the depth of class c: the steps from it up to the root. Since a parent comes before its children, they are no more than its number
abbrev pub depth : Shape → ℕ → ℕ
depth t c = steps t c c

-- the last child of the node below number n, or none
abbrev pub child_below : Shape → ℕ → ℕ → Option ℕ
child_below t node zero = None
child_below t node (suc n) = cond (child t node n) (Some n) (child_below t node n)
