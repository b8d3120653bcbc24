-- One class more.
use Rattle.std.proofs.Common.{◌≡◌, ℕ, suc, ◌+◌, ◌<◌, ◌≤◌, false, eqb, List, [], ◌∷◌, ◌++◌, length, set, get_or, Some, None, Option, sym, refl, ap, ◌∙◌, subst, inl, inr, arith}
use Rattle.std.proofs.lemmas.List.{length-set, length_push, get_or_at, get_or_append_left, get_or_past, get_or_default, get_or-set_same, get_or-set_other}
use Rattle.std.proofs.lemmas.Bool.{cases_eq, cases_lt, eq-eqb, ne_eqb, cond-true, cond-false}
use Rattle.std.specs.List.{refill}
use Rattle.arrayvec.proofs.ArrayVecLemmas.{items-with_items}
use Rattle.base.specs.declared.weight.Weight.{Weight}
use Rattle.rules.specs.Shape.{Shape, child}
use Rattle.rules.specs.State.{put}
use Rattle.rules.proofs.Tests.{no_test}
use Rattle.rules.proofs.Tree.{child_decides}
use Rattle.classes.specs.Additions.{Grown}
use Rattle.classes.specs.Names.{text_of}
use Rattle.classes.specs.Rows.{blank, row, shape, name_at, named_below}
use Rattle.classes.specs.Shapes.{depth, child_below}
use Rattle.classes.specs.Tables.{class_count, shape_of, named}
use Rattle.classes.specs.WellFormed.{WellFormed}
use Rattle.classes.specs.declared.class.Class.{Class}
use Rattle.classes.specs.declared.name.Name.{Name}
use Rattle.classes.specs.declared.table.ClassTable.{ClassTable}
use Rattle.classes.proofs.Rows.{named_kept}
use Rattle.classes.proofs.Shapes.{below_none, no_child, depth_up, depth_kept, below_kept}

-- the table t, to which a class comes under class p
module _ (t : ClassTable) (p : ℕ) (weight : Weight) (name : Name) (low : p < class_count t) where
  abbrev n : ℕ
  n = class_count t

  abbrev cs : List Class
  cs = t.classes.items

  abbrev was : WellFormed cs
  was = t.well_formed

  -- a row with another first child, and the row of a class below it
  abbrev with_first : Class → Option ℕ → Class
  with_first r first = record { name = r.name; parent = r.parent; weight = r.weight; depth = r.depth; first_child = first; next_sibling = r.next_sibling }

  abbrev under_it : Class → Option ℕ → Class
  under_it r next = record { name = name; parent = p; weight = weight; depth = r.depth + 1; first_child = None; next_sibling = next }

  -- the rows of the parent, before and after, and of the new class
  abbrev a : Class
  a = row cs p

  abbrev above : Class
  above = with_first a (Some n)

  abbrev new : Class
  new = under_it a a.first_child

  abbrev pub grown : List Class
  grown = set cs p above ++ new ∷ []

  count : length grown ≡ n + 1
  count = length_push (set cs p above) new ∙ ap (λ k. k + 1) (length-set cs p above)

  row_before : (k : ℕ) → (k ≡ n → ⊥) → row grown k ≡ row (set cs p above) k
  row_before k off = elim (cases_lt k n) [
    | inl l ↦ get_or_append_left (set cs p above) (new ∷ []) blank k (omega (arith, length-set cs p above))
    | inr l ↦ get_or_past grown k blank (omega (arith, count)) ∙ sym (get_or_past (set cs p above) k blank (omega (arith, length-set cs p above)))
  ]

  -- what holds of the new row, of the parent's and of each other one holds of all
  each : (P : ℕ → Class → Type 0) → P n new → P p above → ((k : ℕ) → (k ≡ n → ⊥) → (k ≡ p → ⊥) → P k (row cs k)) → (k : ℕ) → P k (row grown k)
  each P here up rest k =
      elim (cases_eq k n) [
        | inl e ↦ subst (λ k. P k (row grown k)) (sym e) (subst (P n) (sym (get_or_at (set cs p above) new [] blank n (length-set cs p above))) here)
        | inr e ↦ subst (P k) (sym (row_before k e)) (elim (cases_eq k p) [
          | inl f ↦ subst (λ k. P k (row (set cs p above) k)) (sym f) (subst (P p) (sym (get_or-set_same cs p above blank low)) up)
          | inr f ↦ subst (P k) (sym (get_or-set_other cs p k above blank f)) (rest k e f)
        ])
      ]

  -- a field that the parent's row keeps
  kept : {X : Type 0} (f : Class → X) (y : X) → f new ≡ y → f above ≡ f a → (k : ℕ) → f (row grown k) ≡ put (λ k. f (row cs k)) n y k
  kept f y here up =
      let off : p ≡ n → ⊥ = λ e. omega arith in
      each (λ k r. f r ≡ put (λ k. f (row cs k)) n y k)
      (here ∙ sym (cond-true (eqb n n) y _ (eq-eqb n n refl)))
      (up ∙ sym (cond-false (eqb p n) y _ (ne_eqb p n off)))
      (λ k e _. sym (cond-false (eqb k n) y _ (ne_eqb k n e)))

  before : {X : Type 0} (f : Class → X) (y : X) → f new ≡ y → f above ≡ f a → (k : ℕ) → k < n → f (row grown k) ≡ f (row cs k)
  before f y here up k l = let off : k ≡ n → ⊥ = λ e. omega arith in kept f y here up k ∙ cond-false (eqb k n) y _ (ne_eqb k n off)

  pub is_grown : (u : ClassTable) → u.classes.items ≡ grown → Grown t p weight.value (text_of name) u
  is_grown u e = record {
    count = ap length e ∙ count;
    parents = λ k. ap (λ xs. (row xs k).parent) e ∙ kept (λ r. r.parent) p refl refl k;
    weights = λ k. ap (λ xs. (row xs k).weight.value) e ∙ kept (λ r. r.weight.value) weight.value refl refl k;
    names = λ k. ap (λ xs. text_of (row xs k).name) e ∙ kept (λ r. text_of r.name) (text_of name) refl refl k;
  }

  -- what is left by a write of the parent's row, read from the rows es, and a push
  pub written : (es fs : List Class) (d : Class) (first next : Option ℕ) → es ≡ cs → first ≡ Some n → next ≡ (get_or es p d).first_child →
      fs ≡ refill n cs (set es p (with_first (get_or es p d) first)) ++ under_it (get_or es p d) next ∷ [] → fs ≡ grown
  written es fs d first next same f g is =
      let read : get_or es p d ≡ row cs p = ap (λ xs. get_or xs p d) same ∙ get_or_default cs p d blank low in
      let below : next ≡ (row cs p).first_child = g ∙ ap (λ (r : Class). r.first_child) read in
      is ∙ (λ i. refill n cs (set (same i) p (with_first (read i) (f i))) ++ under_it (read i) (below i) ∷ [])
      ∙ ap (λ xs. xs ++ new ∷ []) (items-with_items t.classes (set cs p above) (length-set cs p above))

  abbrev s : Shape
  s = shape cs

  abbrev u : Shape
  u = shape grown

  parent_new : u.parent n ≡ p
  parent_new = kept (λ r. r.parent) p refl refl n ∙ cond-true (eqb n n) p _ (eq-eqb n n refl)

  parent_before : (k : ℕ) → k < n → u.parent k ≡ s.parent k
  parent_before = before (λ r. r.parent) p refl refl

  name_before : (k : ℕ) → k < n → name_at grown k ≡ name_at cs k
  name_before = before (λ r. text_of r.name) (text_of name) refl refl

  root : u.parent 0 ≡ 0
  root = parent_before 0 t.some ∙ was.root

  earlier : (k : ℕ) → 0 < k → u.parent k < k
  earlier = each (λ k r. 0 < k → r.parent < k) (λ _. low) (λ pos. was.earlier p pos) (λ k _ _. was.earlier k)

  deep_before : (k : ℕ) → k < n → (row cs k).depth ≡ depth u k
  deep_before k l = was.deep k l ∙ sym (depth_kept s u n was.root was.earlier parent_before k l)

  depth_new : a.depth + 1 ≡ depth u n
  depth_new =
      let one : a.depth + 1 ≡ suc a.depth = omega arith in
      one ∙ ap suc (deep_before p low) ∙ sym (depth_up u root earlier n t.some ∙ ap (λ k. suc (depth u k)) parent_new)

  deep : (k : ℕ) → k < length grown → (row grown k).depth ≡ depth u k
  deep = each (λ k r. k < length grown → r.depth ≡ depth u k)
      (λ _. depth_new)
      (λ _. deep_before p low)
      (λ k e _ l. deep_before k (omega (arith, count)))

  children_before : (node m : ℕ) → m ≤ n → child_below u node m ≡ child_below s node m
  children_before = below_kept s u n was.root was.earlier parent_before

  -- the new class is the last child of its parent, and of no other class
  first_new : child_below u p (length grown) ≡ Some n
  first_new =
      let one : length grown ≡ suc n = omega (arith, count) in
      ap (child_below u p) one ∙ cond-true (child u p n) (Some n) _ ((child_decides u p n).1 (t.some, parent_new))

  first_before : (k : ℕ) → (k ≡ p → ⊥) → child_below u k (length grown) ≡ child_below s k n
  first_before k off =
      let one : length grown ≡ suc n = omega (arith, count) in
      let none : child u k n ≡ false = no_test _ (λ e. off (sym ((child_decides u k n).0 e).1 ∙ parent_new)) in
      ap (child_below u k) one ∙ cond-false (child u k n) (Some n) _ none ∙ children_before k n (omega arith)

  first : (k : ℕ) → (row grown k).first_child ≡ child_below u k (length grown)
  first = each (λ k r. r.first_child ≡ child_below u k (length grown))
      (sym (below_none u n (length grown) (λ k l. no_child u root earlier n k (omega (arith, count)))))
      (sym first_new)
      (λ k _ f. was.first k ∙ sym (first_before k f))

  next : (k : ℕ) → k < length grown → (row grown k).next_sibling ≡ child_below u (u.parent k) k
  next = each (λ k r. k < length grown → r.next_sibling ≡ child_below u (u.parent k) k)
      (λ _. was.first p ∙ sym (children_before p n (omega arith)) ∙ ap (λ q. child_below u q n) (sym parent_new))
      (λ _. was.next p low ∙ sym (old p low))
      (λ k e _ l. let m : k < n = omega (arith, count) in was.next k m ∙ sym (old k m))
    where
      old : (k : ℕ) → k < n → child_below u (u.parent k) k ≡ child_below s (s.parent k) k
      old k l = ap (λ q. child_below u q k) (parent_before k l) ∙ children_before (s.parent k) k (omega arith)

  -- where the parent is not too deep, and no class has the name yet
  module _ (high : depth (shape_of t) p < 7) (fresh : named t (text_of name) ≡ None) where
    shallow : (k : ℕ) → (row grown k).depth ≤ 7
    shallow =
        let d = was.deep p low in
        each (λ k r. r.depth ≤ 7) (omega arith) (omega arith) (λ k _ _. was.shallow k)

    apart : (k : ℕ) → k < length grown → named_below grown (name_at grown k) k ≡ None
    apart = each (λ k r. k < length grown → named_below grown (text_of r.name) k ≡ None)
        (λ _. named_kept cs grown (text_of name) n name_before ∙ fresh)
        (λ _. old p low)
        (λ k e _ l. old k (omega (arith, count)))
      where
        old : (k : ℕ) → k < n → named_below grown (name_at cs k) k ≡ None
        old k l = named_kept cs grown (name_at cs k) k (λ j m. name_before j (omega arith)) ∙ was.apart k l

    -- the table after it
    pub well_formed : WellFormed grown
    well_formed = record {
      root = root;
      earlier = earlier;
      deep = deep;
      shallow = shallow;
      first = first;
      next = next;
      titled = name_before 0 t.some ∙ was.titled;
      apart = apart;
    }
