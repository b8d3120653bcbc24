-- What a class table means: its shape, and the weight and the name of each class.
use Rattle.std.specs.Prelude.{◌≡◌, ℕ, ◌<◌, cond, ◌&&◌, List, length, Some, None, Option, MatchOption, ◌≢◌, nat_lt}
use Rattle.rules.specs.Shape.{Shape}
use Rattle.classes.specs.Rows.{row, shape, name_at, named_below}
use Rattle.classes.specs.Shapes.{child_below}
use Rattle.classes.specs.declared.class.Class.{Class}
use Rattle.classes.specs.declared.table.ClassTable.{ClassTable}

-- how many classes there are
abbrev pub class_count : ClassTable → ℕ
class_count t = length t.classes.items

abbrev pub shape_of : ClassTable → Shape
shape_of t = shape t.classes.items

abbrev pub weight_of : ClassTable → ℕ → ℕ
weight_of t k = (row t.classes.items k).weight.value

abbrev pub name_of : ClassTable → ℕ → List ℕ
name_of t k = name_at t.classes.items k

-- the class of that number, or none
abbrev pub class_of : ClassTable → ℕ → Option Class
class_of t k = cond (nat_lt k (class_count t)) (Some (row t.classes.items k)) None

-- the bytes of its name, or none
abbrev pub name_by : ClassTable → ℕ → Option (List ℕ)
name_by t k = cond (nat_lt k (class_count t)) (Some (name_of t k)) None

-- the node above class k: none for the root and for a number that no class has
abbrev pub node_above : ClassTable → ℕ → Option ℕ
node_above t k = cond (nat_lt 0 k && nat_lt k (class_count t)) (Some ((shape_of t).parent k)) None

-- the child of the same node that comes before class k, or none
abbrev pub sibling_below : ClassTable → ℕ → Option ℕ
sibling_below t k = cond (nat_lt k (class_count t)) (child_below (shape_of t) ((shape_of t).parent k) k) None

-- the class of that name, or none
abbrev pub named : ClassTable → List ℕ → Option ℕ
named t w = named_below t.classes.items w (class_count t)

-- the same in words: the one class with that name, or no class has it
abbrev pub Finds : ClassTable → List ℕ → Option ℕ → Type 0
Finds t w r =
    MatchOption r
    ((k : ℕ) → k < class_count t → name_of t k ≢ w)
    (λ c. (c < class_count t) × (name_of t c ≡ w) × ((k : ℕ) → k < class_count t → name_of t k ≡ w → k ≡ c))
