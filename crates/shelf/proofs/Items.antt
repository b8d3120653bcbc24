-- What stands at the places of a lane. Assumes nothing.
use Rattle.std.proofs.Common.{◌≡◌, ℕ, zero, suc, ◌+◌, ◌<◌, ◌≤◌, Bool, true, false, cond, eqb, List, [], ◌∷◌, ◌++◌, length, get_or, drop, set, Option, Some, None, sym, refl, ap, ◌∙◌, ap₂, ⊎_elim, append_assoc, arith}
use Rattle.std.specs.Option.{MatchOption}
use Rattle.std.proofs.lemmas.List.{nil_from_length}
use Rattle.std.proofs.lemmas.Bool.{cases_eq, eq-eqb, ne_eqb, cond-true, cond-false}
use Rattle.shelf.specs.Chains.{first}
use Rattle.shelf.specs.Tables.{line, spare, Claimed, Released}
use Rattle.shelf.specs.Places.{took, items, lanes_of}
use Rattle.shelf.specs.Lanes.{headed}
use Rattle.shelf.specs.declared.table.LinkTable.{LinkTable}
use Rattle.shelf.proofs.Lines.{no_first, released_free, free_alone, head_alone, line_within}

module _ {X : Type 0} where
  took_read : (xs : List X) (p : ℕ) (d : X) → p < length xs → took xs p ≡ get_or xs p d ∷ []
  took_read [] p d l = absurd (omega arith)
  took_read (x ∷ xs) zero d l = refl
  took_read (x ∷ xs) (suc p) d l = took_read xs p d (omega arith)

  took_one : (xs : List X) (p : ℕ) → p < length xs → (y : X) × (took xs p ≡ y ∷ [])
  took_one [] p l = absurd (omega arith)
  took_one (x ∷ xs) zero l = (x, refl)
  took_one (x ∷ xs) (suc p) l = took_one xs p (omega arith)

  took_same : (xs : List X) (p : ℕ) (x : X) → p < length xs → took (set xs p x) p ≡ x ∷ []
  took_same [] p x l = absurd (omega arith)
  took_same (y ∷ xs) zero x l = refl
  took_same (y ∷ xs) (suc p) x l = took_same xs p x (omega arith)

  took_other : (xs : List X) (p q : ℕ) (x : X) → (q ≡ p → ⊥) → took (set xs p x) q ≡ took xs q
  took_other [] p q x n = refl
  took_other (y ∷ xs) zero zero x n = absurd (n refl)
  took_other (y ∷ xs) zero (suc q) x n = refl
  took_other (y ∷ xs) (suc p) zero x n = refl
  took_other (y ∷ xs) (suc p) (suc q) x n = took_other xs p q x (λ e. n (ap suc e))

  items_append : (xs : List X) (ps qs : List ℕ) → items xs (ps ++ qs) ≡ items xs ps ++ items xs qs
  items_append xs [] qs = refl
  items_append xs (p ∷ ps) qs = ap (λ l. took xs p ++ l) (items_append xs ps qs) ∙ sym (append_assoc (took xs p) (items xs ps) (items xs qs))

  -- a write to a place that is not among them
  items_out : (xs : List X) (ps : List ℕ) (p : ℕ) (x : X) → ((i : ℕ) → i < length ps → get_or ps i 0 ≡ p → ⊥) → items (set xs p x) ps ≡ items xs ps
  items_out xs [] p x out = refl
  items_out xs (q ∷ ps) p x out = ap₂ (λ a b. a ++ b) (took_other xs p q x (out 0 (omega arith))) (items_out xs ps p x (λ i l e. out (suc i) (omega arith) e))

  items_length : (xs : List X) (ps : List ℕ) → ((i : ℕ) → i < length ps → get_or ps i 0 < length xs) → length (items xs ps) ≡ length ps
  items_length xs [] in-it = refl
  items_length xs (p ∷ ps) in-it =
      let one = took_one xs p (in-it 0 (omega arith)) in
      ap (λ w. length (w ++ items xs ps)) one.1 ∙ ap suc (items_length xs ps (λ i l. in-it (suc i) (omega arith)))

  items_drop : (xs : List X) (ps : List ℕ) → ((i : ℕ) → i < length ps → get_or ps i 0 < length xs) → items xs (drop 1 ps) ≡ drop 1 (items xs ps)
  items_drop xs [] in-it = refl
  items_drop xs (p ∷ ps) in-it = let one = took_one xs p (in-it 0 (omega arith)) in ap (λ w. drop 1 (w ++ items xs ps)) (sym one.1)

  items_first : (xs : List X) (ps : List ℕ) (p : ℕ) (d : X) → p < length xs → first ps ≡ Some p → first (items xs ps) ≡ Some (get_or xs p d)
  items_first xs [] p d l e = absurd (cc)
  items_first xs (q ∷ ps) p d l e = let same : q ≡ p = cc in ap (λ w. first (took xs w ++ items xs ps)) same ∙ ap (λ w. first (w ++ items xs ps)) (took_read xs p d l)

  -- a write to the first of them
  items_headed : (xs : List X) (ps : List ℕ) (p : ℕ) (x : X) → p < length xs → first ps ≡ Some p → ((i : ℕ) → i < length ps → get_or ps i 0 ≡ p → i ≡ 0) → items (set xs p x) ps ≡ headed (Some x) (items xs ps)
  items_headed xs [] p x l e out = refl
  items_headed xs (q ∷ ps) p x l e out =
      let same : q ≡ p = cc in
      let one = took_one xs p l in
      ap (λ w. took (set xs p x) w ++ items (set xs p x) ps) same
      ∙ ap₂ (λ a b. a ++ b) (took_same xs p x l) (items_out xs ps p x (λ i m f. let z = out (suc i) (omega arith) f in omega arith))
      ∙ ap (λ w. headed (Some x) (w ++ items xs ps)) (sym one.1) ∙ ap (λ w. headed (Some x) (took xs w ++ items xs ps)) (sym same)

  pushed : (xs : List X) (ps : List ℕ) (p : ℕ) (x : X) (b : Bool) → p < length xs → ((i : ℕ) → i < length ps → get_or ps i 0 ≡ p → ⊥) → items (set xs p x) (cond b (ps ++ p ∷ []) ps) ≡ cond b (items xs ps ++ x ∷ []) (items xs ps)
  pushed xs ps p x true l out = items_append (set xs p x) ps (p ∷ []) ∙ ap₂ (λ a b. a ++ b) (items_out xs ps p x out) (ap (λ w. w ++ []) (took_same xs p x l))
  pushed xs ps p x false l out = items_out xs ps p x out

  popped : (xs : List X) (ps : List ℕ) (b : Bool) → ((i : ℕ) → i < length ps → get_or ps i 0 < length xs) → items xs (cond b (drop 1 ps) ps) ≡ cond b (drop 1 (items xs ps)) (items xs ps)
  popped xs ps true in-it = items_drop xs ps in-it
  popped xs ps false in-it = refl

  module _ (xs : List X) (t : LinkTable) (fits : t.size ≤ length xs) where
    inside : (j i : ℕ) → i < length (line t j) → get_or (line t j) i 0 < length xs
    inside j i l = let w = line_within t j i l in omega arith

    pub lane_length : (j : ℕ) → length (items xs (line t j)) ≡ length (line t j)
    lane_length j = items_length xs (line t j) (inside j)

    -- an item is put: its place was free
    pub put_lane : (t' : LinkTable) (k p : ℕ) (x : X) → Claimed t t' k p → (j : ℕ) → items (set xs p x) (line t' j) ≡ cond (eqb j k) (items xs (line t j) ++ x ∷ []) (items xs (line t j))
    put_lane t' k p x h j =
        let w = h.within in
        ap (items (set xs p x)) (h.lines j) ∙ pushed xs (line t j) p x (eqb j k) (omega arith) (free_alone t p h.was j)

    -- the head of a lane is removed
    pub remove_lane : (t' : LinkTable) (k p : ℕ) → Released t t' k p → (j : ℕ) → items xs (line t' j) ≡ cond (eqb j k) (drop 1 (items xs (line t j))) (items xs (line t j))
    remove_lane t' k p h j = ap (items xs) (h.lines j) ∙ popped xs (line t j) (eqb j k) (inside j)

    pub lane_none : (k : ℕ) → None ≡ first (line t k) → items xs (line t k) ≡ []
    lane_none k e = ap (items xs) (nil_from_length (line t k) (no_first (line t k) e))

    -- nothing is removed from an empty lane
    pub remove_none : (k : ℕ) → None ≡ first (line t k) → (j : ℕ) → items xs (line t j) ≡ cond (eqb j k) (drop 1 (items xs (line t j))) (items xs (line t j))
    remove_none k e j = ⊎_elim
        (λ same. let nil : items xs (line t j) ≡ [] = ap (λ i. items xs (line t i)) same ∙ lane_none k e in nil ∙ ap (drop 1) (sym nil) ∙ sym (cond-true (eqb j k) _ _ (eq-eqb j k same)))
        (λ n. sym (cond-false (eqb j k) _ _ (ne_eqb j k n)))
        (cases_eq j k)

    -- the head of a lane is removed, if it has one
    pub removed_lane : (t' : LinkTable) (k : ℕ) (r : Option ℕ) → r ≡ first (line t k) → MatchOption r (t' ≡ t) (λ p. Released t t' k p) → (j : ℕ) → lanes_of xs t' j ≡ cond (eqb j k) (drop 1 (lanes_of xs t j)) (lanes_of xs t j)
    removed_lane t' k None e same j = ap (λ u. lanes_of xs u j) same ∙ remove_none k e j
    removed_lane t' k (Some p) e h j = remove_lane t' k p h j

    pub removed_free : (t' : LinkTable) (k : ℕ) (x : X) (r : Option ℕ) → r ≡ first (line t k) → MatchOption r (t' ≡ t) (λ p. Released t t' k p) → Some x ≡ first (items xs (line t k)) → length (spare t') ≡ length (spare t) + 1
    removed_free t' k x None e same some = let nil = ap first (lane_none k e) in absurd (cc)
    removed_free t' k x (Some p) e h some = released_free t t' k p h

    -- another item in the place of the head of a lane
    pub replace_lane : (k p : ℕ) (x : X) → p < length xs → first (line t k) ≡ Some p → (j : ℕ) → items (set xs p x) (line t j) ≡ cond (eqb j k) (headed (Some x) (items xs (line t j))) (items xs (line t j))
    replace_lane k p x l f j = ⊎_elim
        (λ e. items_headed xs (line t j) p x l (ap (λ i. first (line t i)) e ∙ f) (λ i m g. (head_alone t k p f j i m g).1) ∙ sym (cond-true (eqb j k) _ _ (eq-eqb j k e)))
        (λ n. items_out xs (line t j) p x (λ i m g. n (head_alone t k p f j i m g).0) ∙ sym (cond-false (eqb j k) _ _ (ne_eqb j k n)))
        (cases_eq j k)

    pub head_lane : (k p : ℕ) (d : X) → p < length xs → first (line t k) ≡ Some p → first (items xs (line t k)) ≡ Some (get_or xs p d)
    head_lane k p d l f = items_first xs (line t k) p d l f
