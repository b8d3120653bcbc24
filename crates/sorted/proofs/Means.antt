-- What entries mean, by the places of their classes, and with one more or one less. Assumes nothing.
use Rattle.std.proofs.Common.{◌≡◌, ◌≢◌, ℕ, zero, suc, ◌+◌, ◌<◌, ◌≤◌, ◌⊎◌, Bool, true, not, List, [], ◌∷◌, length, get_or, insert, remove, Some, None, Option, is_some, eqb, sym, refl, ap, ◌∙◌, inl, inr, arith}
use Rattle.std.specs.List.{HoldsAt}
use Rattle.std.proofs.lemmas.Bool.{cases_lt, cases_eq, eq-eqb, ne_eqb, eqb-false, not-true, not-false, true≢false}
use Rattle.std.proofs.lemmas.List.Edits.{length-insert, get_or-insert_below, get_or-insert_at, get_or-insert_above}
use Rattle.std.proofs.lemmas.List.Elements.{All-nil, All-cons, All-head, All-tail}
use Rattle.base.specs.declared.units.Parts.{Parts}
use Rattle.tags.specs.Held.{with, free}
use Rattle.tags.proofs.Uses.{none_some}
use Rattle.sorted.specs.declared.entry.Entry.{Entry}
use Rattle.sorted.specs.Rows.{differ, Once, pair, held_in, Missing, Found}

pub two_classes : (a b : Entry) → differ a b ≡ true → a.class.value ≢ b.class.value
two_classes a b d = eqb-false a.class.value b.class.value (not-true (eqb a.class.value b.class.value) d)

once_tail : (e : Entry) (es : List Entry) → Once (e ∷ es) → Once es
once_tail e es once i j d l h = once (suc i) (suc j) d (omega arith) (omega arith)

once_head : (e : Entry) (es : List Entry) → Once (e ∷ es) → Missing es e.class.value
once_head e es once i d l same = two_classes e (get_or es i d) (once 0 (suc i) d (omega arith) (omega arith)) (sym same)

pub held_none : (es : List Entry) (k : ℕ) → Missing es k → held_in es k ≡ None
held_none [] k none = refl
held_none (e ∷ es) k none =
    let other = All-head (λ a. a.class.value ≢ k) e es none in
    rw (ne_eqb e.class.value k other) (held_none es k (All-tail (λ a. a.class.value ≢ k) e es none))

pub held_at : (es : List Entry) (k i : ℕ) (d : Entry) → Once es → i < length es → (get_or es i d).class.value ≡ k → held_in es k ≡ pair (get_or es i d)
held_at [] k i d once l is = absurd (omega arith)
held_at (e ∷ es) k zero d once l is = rw (eq-eqb e.class.value k is) refl
held_at (e ∷ es) k (suc i) d once l is =
    let low : i < length es = omega arith in
    rw (ne_eqb e.class.value k (λ same. once_head e es once i d low (is ∙ sym same))) (held_at es k i d (once_tail e es once) low is)

-- either an entry has the class, or none
pub seek : (es : List Entry) (k : ℕ) → ((i : ℕ) × (i < length es) × HoldsAt (λ e. e.class.value ≡ k) es i) ⊎ Missing es k
seek [] k = inr (All-nil (λ a. a.class.value ≢ k))
seek (e ∷ es) k =
    elim (cases_eq e.class.value k) [
      | inl here ↦ inl (0, omega arith, λ d. here)
      | inr other ↦ elim (seek es k) [
        | inl some ↦ let l = some.1 in inl (suc some.0, omega arith, λ d. some.2 d)
        | inr none ↦ inr (All-cons (λ a. a.class.value ≢ k) e es other none)
      ]
    ]

-- where no class has two entries with e put in, the class of e had none
pub new_class : (es : List Entry) (p : ℕ) (e : Entry) → p ≤ length es → Once (insert es p e) → Missing es e.class.value
new_class es p e within once i d l same =
    let long = length-insert es p e within in
    elim (cases_lt i p) [
      | inl low ↦
          two_classes (get_or es i d) e
          (rw (get_or-insert_below es p e d i low within, get_or-insert_at es p e d within) at (once i p d low (omega arith)))
          same
      | inr high ↦
          two_classes e (get_or es i d)
          (rw (get_or-insert_at es p e d within, get_or-insert_above es p e d i high within) at (once p (i + 1) d (omega arith) (omega arith)))
          (sym same)
    ]

-- the entry that a pair is read from
pub held_row : (es : List Entry) (k g : ℕ) (t : Parts) (d : Entry) → held_in es k ≡ Some (g, t) → (i : ℕ) × (i < length es) × ((get_or es i d).class.value ≡ k) × (pair (get_or es i d) ≡ Some (g, t))
held_row [] k g t d h = absurd (none_some None g t refl h)
held_row (e ∷ es) k g t d h =
    elim (cases_eq e.class.value k) [
      | inl here ↦ (0, omega arith, here, rw (eq-eqb e.class.value k here) at h)
      | inr other ↦
          let at = held_row es k g t d (rw (ne_eqb e.class.value k other) at h) in
          let l = at.1 in
          (suc at.0, omega arith, at.2, at.3)
    ]

-- a class is free if it has no place
pub found_free : (es : List Entry) (k : ℕ) (o : Option ℕ) (b : Bool) → Once es → Found es k o → is_some o ≡ not b → b ≡ free (held_in es k)
found_free es k None b once none e = not-false b (sym e) ∙ sym (ap free (held_none es k none))
found_free [] k (Some i) b once at e = absurd (let l = at.0 in omega arith)
found_free (x ∷ xs) k (Some i) b once at e = not-true b (sym e) ∙ sym (ap free (held_at (x ∷ xs) k i x once at.0 (at.1 x)))

pub free_none : (es : List Entry) (k : ℕ) → Once es → free (held_in es k) ≡ true → Missing es k
free_none es k once h i d l is = true≢false (sym h ∙ ap free (held_at es k i d once l is))

held_front : (es : List Entry) (e : Entry) (k : ℕ) → held_in (e ∷ es) k ≡ with (held_in es) e.class.value (pair e) k
held_front es e k = elim (cases_eq k e.class.value) [
  | inl same ↦ rw (eq-eqb k e.class.value same, eq-eqb e.class.value k (sym same)) refl
  | inr other ↦ rw (ne_eqb k e.class.value other, ne_eqb e.class.value k (λ q. other (sym q))) refl
]

-- with one more entry the class of that entry has its pair, and the others have what they had
pub held_more : (es : List Entry) (p : ℕ) (e : Entry) → Missing es e.class.value → (k : ℕ) → held_in (insert es p e) k ≡ with (held_in es) e.class.value (pair e) k
held_more es zero e new k = held_front es e k
held_more [] (suc p) e new k = held_front [] e k
held_more (x ∷ xs) (suc p) e new k =
    let more = held_more xs p e (All-tail (λ a. a.class.value ≢ e.class.value) x xs new) k in
    let apart = All-head (λ a. a.class.value ≢ e.class.value) x xs new in
    rw more (elim (cases_eq k e.class.value) [
      | inl same ↦ rw (eq-eqb k e.class.value same, ne_eqb x.class.value k (λ q. apart (q ∙ same))) refl
      | inr other ↦ rw (ne_eqb k e.class.value other) refl
    ])

-- with one less the class of that entry has none
pub held_less : (es : List Entry) (p : ℕ) (d : Entry) → Once es → p < length es → (k : ℕ) → held_in (remove es p) k ≡ with (held_in es) (get_or es p d).class.value None k
held_less [] p d once l k = absurd (omega arith)
held_less (x ∷ xs) zero d once l k = elim (cases_eq k x.class.value) [
  | inl same ↦ rw (eq-eqb k x.class.value same) (ap (held_in xs) same ∙ held_none xs x.class.value (once_head x xs once))
  | inr other ↦ rw (ne_eqb k x.class.value other, ne_eqb x.class.value k (λ q. other (sym q))) refl
]
held_less (x ∷ xs) (suc p) d once l k =
    let low : p < length xs = omega arith in
    let less = held_less xs p d (once_tail x xs once) low k in
    let apart = once_head x xs once p d low in
    rw less (elim (cases_eq k (get_or xs p d).class.value) [
      | inl same ↦ rw (eq-eqb k (get_or xs p d).class.value same, ne_eqb x.class.value k (λ q. apart (sym same ∙ sym q))) refl
      | inr other ↦ rw (ne_eqb k (get_or xs p d).class.value other) refl
    ])
