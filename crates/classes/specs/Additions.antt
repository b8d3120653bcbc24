-- Adding a class: when it is refused, and what it leaves.
use Rattle.std.specs.Prelude.{◌≡◌, ℕ, ◌+◌, Bool, not, ◌&&◌, List, [], ◌∷◌, is_some, Some, None, Ok, Err, Option, Result, unwrap_or, ◌==◌, nat_le}
use Rattle.base.specs.declared.refusal.Refusal.{Refusal}
use Rattle.base.specs.declared.refusal.Refusal.TheVariants.{TreeFull, UnknownParent, BadWeight, BadName, NameTaken, TooDeep}
use Rattle.rules.specs.Rules.{first}
use Rattle.rules.specs.State.{put}
use Rattle.classes.specs.Shapes.{depth}
use Rattle.classes.specs.Tables.{class_count, shape_of, weight_of, name_of, named}
use Rattle.classes.specs.Words.{is_name}
use Rattle.classes.specs.declared.table.ClassTable.{ClassTable}

-- the checks of an addition under class p with weight w and name n, in order
abbrev pub checks : ClassTable → ℕ → ℕ → List ℕ → List (Bool × Refusal)
checks t p w n =
    (nat_le 64 (class_count t), TreeFull) ∷
    (not (is_name n), BadName) ∷
    (is_some (named t n), NameTaken) ∷
    (nat_le (class_count t) p, UnknownParent) ∷
    ((depth (shape_of t) p == 7), TooDeep) ∷
    (not (nat_le 1 w && nat_le w 16), BadWeight) ∷ []

-- the first refusal, or the next class number
abbrev pub answer_by : Option Refusal → ℕ → Result ℕ Refusal
answer_by None k = Ok k
answer_by (Some e) k = Err e

abbrev pub addition : ClassTable → ℕ → ℕ → List ℕ → Result ℕ Refusal
addition t p w n = answer_by (first (checks t p w n)) (class_count t)

-- the number of a parent; where there is none 64, which no class has
abbrev pub parent_number : Option ℕ → ℕ
parent_number p = unwrap_or p 64

-- u has the classes of t and one more, under class p with weight w and name n
pub record Grown (t : ClassTable) (p w : ℕ) (n : List ℕ) (u : ClassTable) : Type 0 where
  pub count : class_count u ≡ class_count t + 1
  pub parents : (k : ℕ) → (shape_of u).parent k ≡ put (shape_of t).parent (class_count t) p k
  pub weights : (k : ℕ) → weight_of u k ≡ put (weight_of t) (class_count t) w k
  pub names : (k : ℕ) → name_of u k ≡ put (name_of t) (class_count t) n k
