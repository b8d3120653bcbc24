-- A walk along the list of a node's children, for the callers of `first_child` and `next_sibling`: it comes to each child once, by
-- falling number.
use Rattle.std.proofs.Common.{◌≡◌, ℕ, suc, ◌<◌, ◌≤◌, Bool, true, false, ◌&&◌, ◌||◌, eqb, ltb, leb, Some, None, Option, refl, ap, ◌∙◌, inl, inr, arith}
use Rattle.std.proofs.lemmas.Option.{MatchOption-at_some, MatchOption-at_none}
use Rattle.std.proofs.lemmas.Bool.{cases_eq, cases_lt, lt-ltb, le-leb, lt-leb, eq-eqb, ne_eqb, cond-true}
use Rattle.std.proofs.lemmas.Bool.Decides.{nat_tests}
use Rattle.rules.specs.Shape.{Shape, child}
use Rattle.rules.proofs.Tree.{child_decides}
use Rattle.classes.specs.Shapes.{child_below}
use Rattle.classes.specs.Tables.{class_count, shape_of, sibling_below}
use Rattle.classes.specs.declared.table.ClassTable.{ClassTable}
use Rattle.classes.proofs.Shapes.{Last, below_last}

-- how far the walk has still to go: a measure
abbrev pub left : Option ℕ → ℕ
left None = 0
left (Some c) = suc c

-- the children of the node from number m on, which the walk has passed when its next child is `child_below t node m`
abbrev pub passed : Shape → ℕ → ℕ → ℕ → Bool
passed t node m k = leb m k && (ltb k t.count && child t node k)

module _ (t : Shape) (node m : ℕ) where
  left_last : (o : Option ℕ) → Last t node m o → left o ≤ m
  left_last None none = omega arith
  left_last (Some c) (low, kid, none) = low

  pub left_below : left (child_below t node m) ≤ m
  left_below = left_last (child_below t node m) (below_last t node m)

  -- the walk comes to class c
  module _ (c : ℕ) (at : child_below t node m ≡ Some c) where
    here : Last t node m (Some c)
    here = MatchOption-at_some _ _ c at (below_last t node m)

    pub lower : c < m
    lower = here.0

    pub is_child : child t node c ≡ true
    is_child = here.1

    pub passed_more : m ≤ t.count → (k : ℕ) → passed t node c k ≡ (eqb k c || passed t node m k)
    passed_more l k = let low = lower in elim (cases_lt k c) [
      | inl a ↦ let off : k ≡ c → ⊥ = λ e. omega arith in rw (lt-leb c k a, ne_eqb k c off, lt-leb m k (omega arith)) refl
      | inr a ↦ elim (cases_lt k m) [
        | inl b ↦ elim (cases_eq k c) [
          | inl z ↦ rw (eq-eqb k c z, le-leb c k a, lt-ltb k t.count (omega arith), ap (child t node) z ∙ is_child) refl
          | inr z ↦ rw (ne_eqb k c z, le-leb c k a, lt-ltb k t.count (omega arith), here.2 k (omega arith) b, lt-leb m k b) refl
        ]
        | inr b ↦ let off : k ≡ c → ⊥ = λ e. omega arith in rw (ne_eqb k c off, le-leb c k a, le-leb m k b) refl
      ]
    ]

  -- the walk ends
  pub passed_all : child_below t node m ≡ None → m ≤ t.count → (k : ℕ) → passed t node m k ≡ (ltb k t.count && child t node k)
  passed_all at l k = let none = MatchOption-at_none _ _ at (below_last t node m) in elim (cases_lt k m) [
    | inl b ↦ rw (lt-leb m k b, lt-ltb k t.count (omega arith), none k b) refl
    | inr b ↦ rw (le-leb m k b) refl
  ]

-- it begins
pub passed_none : (t : Shape) (node k : ℕ) → passed t node t.count k ≡ false
passed_none t node k = grind (arith, nat_tests)

-- it goes on
pub sibling_is : (t : ClassTable) (node m c : ℕ) → child_below (shape_of t) node m ≡ Some c → m ≤ class_count t → sibling_below t c ≡ child_below (shape_of t) node c
sibling_is t node m c at l =
    let low = lower (shape_of t) node m c at in
    cond-true (ltb c (class_count t)) _ None (lt-ltb c (class_count t) (omega arith))
    ∙ ap (λ p. child_below (shape_of t) p c) ((child_decides (shape_of t) node c).0 (is_child (shape_of t) node m c at)).1
