-- What a class table's fields say.
use Rattle.std.proofs.Common.{◌≡◌, ℕ, suc, ◌<◌, ◌≤◌, ◌≢◌, List, length, Some, None, Option, MatchOption, sym, ap, ◌∙◌, inl, inr, arith}
use Rattle.std.proofs.lemmas.List.{get_or_past}
use Rattle.std.proofs.lemmas.Bool.{cases_lt, cases_order}
use Rattle.std.specs.List.{AllWithin, HoldsAt}
use Rattle.rules.specs.Shape.{Sound, climb}
use Rattle.classes.specs.Names.{text_of}
use Rattle.classes.specs.Rows.{blank, row}
use Rattle.classes.specs.Shapes.{depth}
use Rattle.classes.specs.Tables.{class_count, shape_of, weight_of, name_of, named, Finds}
use Rattle.classes.specs.declared.class.Class.{Class}
use Rattle.classes.specs.declared.table.ClassTable.{ClassTable}
use Rattle.classes.proofs.Rows.{none_named, named_none, one_named}
use Rattle.classes.proofs.Shapes.{depth_up, climb_depth}

module _ (t : ClassTable) where
  abbrev cs : List Class
  cs = t.classes.items

  -- a number that no class has reads as the root alone
  pub unused : (k : ℕ) → class_count t ≤ k → (shape_of t).parent k ≡ 0
  unused k l = ap (λ (c : Class). c.parent) (get_or_past cs k blank l)

  -- the classes hang together as the rules ask
  pub shape_sound : Sound (shape_of t)
  shape_sound = record {
    some = t.some;
    few = t.few;
    root = t.well_formed.root;
    earlier = t.well_formed.earlier;
    shallow = λ k l. climb_depth (shape_of t) t.well_formed.root t.well_formed.earlier 7 k (omega (arith, t.well_formed.shallow k, t.well_formed.deep k l));
  }

  -- seven steps lead to the root from every number
  pub climb_all : (k : ℕ) → climb (shape_of t) 7 k ≡ 0
  climb_all k = elim (cases_lt k (class_count t)) [
    | inl l ↦ shape_sound.shallow k l
    | inr l ↦
        let one = depth_up (shape_of t) t.well_formed.root t.well_formed.earlier k (omega (arith, t.some)) ∙ ap (λ p. suc (depth (shape_of t) p)) (unused k l) in
        climb_depth (shape_of t) t.well_formed.root t.well_formed.earlier 7 k (omega (arith, one))
  ]

  -- and weigh what the rules allow
  pub weights_valid : (k : ℕ) → (1 ≤ weight_of t k) × (weight_of t k ≤ 16)
  weights_valid k = ((row cs k).weight.least, (row cs k).weight.most)

  -- two classes have two names
  pub names_apart : (j k : ℕ) → j < class_count t → k < class_count t → name_of t j ≡ name_of t k → j ≡ k
  names_apart j k a b e = elim (cases_order j k) [
    | inl same ↦ same
    | inr (inl below) ↦ absurd (named_none cs (name_of t k) k (t.well_formed.apart k b) j below e)
    | inr (inr above) ↦ absurd (named_none cs (name_of t j) j (t.well_formed.apart j a) k above (sym e))
  ]

  module _ (w : List ℕ) where
    only : (c : ℕ) → c < class_count t → name_of t c ≡ w → (k : ℕ) → k < class_count t → name_of t k ≡ w → k ≡ c
    only c l is k m e = names_apart k c m l (e ∙ sym is)

    -- a class of that name is the one that is found
    pub found : (c : ℕ) → c < class_count t → name_of t c ≡ w → (Some c ≡ named t w) × Finds t w (Some c)
    found c l is = (sym (one_named cs w (class_count t) c l is (only c l is)), (l, is, only c l is))

    pub not_found : ((k : ℕ) → k < class_count t → name_of t k ≡ w → ⊥) → (None ≡ named t w) × Finds t w None
    not_found none = (sym (none_named cs w (class_count t) none), none)

    -- the first class of that name is the one class of that name
    pub found_first : (r : Option ℕ) → MatchOption r (AllWithin (λ (c : Class). text_of c.name ≢ w) cs 0 (length cs)) (λ k. (k < length cs) × HoldsAt (λ c. text_of c.name ≡ w) cs k × AllWithin (λ c. text_of c.name ≢ w) cs 0 k) → (r ≡ named t w) × Finds t w r
    found_first None none = not_found (λ k l. none k blank (omega arith) l)
    found_first (Some k) (low, is, before) = found k low (is blank)
