-- What holds of the rows of a class table.
use Rattle.std.specs.Prelude.{◌≡◌, ℕ, ◌<◌, ◌≤◌, List, None, length, codes}
use Rattle.classes.specs.Rows.{row, shape, name_at, named_below}
use Rattle.classes.specs.Shapes.{child_below, depth}
use Rattle.classes.specs.declared.class.Class.{Class}

pub record WellFormed (cs : List Class) : Type 0 where
  -- the root counts as its own parent, and each other class comes after its parent
  pub root : (row cs 0).parent ≡ 0
  pub earlier : (k : ℕ) → 0 < k → (row cs k).parent < k
  -- the depths are right, and none is above 7
  pub deep : (k : ℕ) → k < length cs → (row cs k).depth ≡ depth (shape cs) k
  pub shallow : (k : ℕ) → (row cs k).depth ≤ 7
  -- each list of children is exact: it goes from the last child down to the first
  pub first : (k : ℕ) → (row cs k).first_child ≡ child_below (shape cs) k (length cs)
  pub next : (k : ℕ) → k < length cs → (row cs k).next_sibling ≡ child_below (shape cs) (row cs k).parent k
  -- class 0 is `root`, and no class has the name of an earlier one
  pub titled : name_at cs 0 ≡ codes "root"
  pub apart : (k : ℕ) → k < length cs → named_below cs (name_at cs k) k ≡ None
