-- The rows of a class table as functions of the class number.
use Rattle.std.specs.Prelude.{◌≡◌, ℕ, zero, suc, cond, List, [], ◌∷◌, length, Some, None, codes, Option, slice_index_or, refl}
use Rattle.std.proofs.Common.{lit≤}
use Rattle.std.specs.Str.{bytes_eq}
use Rattle.base.specs.declared.weight.Weight.{Weight}
use Rattle.rules.specs.Shape.{Shape}
use Rattle.classes.specs.Names.{text_of}
use Rattle.classes.specs.declared.class.Class.{Class}
use Rattle.classes.specs.declared.name.Name.{Name}

-- the name and the weight of the root
abbrev pub root_name : Name
root_name = record { text = record { bytes = codes "root"; spare = 0 ∷ 0 ∷ 0 ∷ 0 ∷ [] }; proper = refl }

abbrev pub root_weight : Weight
root_weight = record { value = 1; least = lit≤ tt; most = lit≤ tt }

-- the root when it stands alone; a number that no class has reads as it
abbrev pub blank : Class
blank = record { name = root_name; parent = 0; weight = root_weight; depth = 0; first_child = None; next_sibling = None }

-- the same in words
pub record Alone (c : Class) : Type 0 where
  pub name : text_of c.name ≡ codes "root"
  pub parent : c.parent ≡ 0
  pub weight : c.weight.value ≡ 1
  pub depth : c.depth ≡ 0
  pub first : c.first_child ≡ None
  pub next : c.next_sibling ≡ None

-- the row of class k
abbrev pub row : List Class → ℕ → Class
row cs k = slice_index_or cs k blank

-- how the classes hang together
abbrev pub shape : List Class → Shape
shape cs = record { count = length cs; parent = λ k. (row cs k).parent }

-- the bytes of the name of class k
abbrev pub name_at : List Class → ℕ → List ℕ
name_at cs k = text_of (row cs k).name

-- the class below number n whose name is w, or none
abbrev pub named_below : List Class → List ℕ → ℕ → Option ℕ
named_below cs w zero = None
named_below cs w (suc n) = cond (bytes_eq (name_at cs n) w) (Some n) (named_below cs w n)
