-- The order of the store outlasts one entry more and one less, and says which is least. Assumes nothing.
use Rattle.std.proofs.Common.{◌≡◌, ◌≢◌, ℕ, ◌-◌, ◌<◌, ◌≤◌, true, false, not, List, length, get_or, insert, Some, None, sym, refl, ap, ◌∙◌, inl, inr, arith}
use Rattle.std.specs.List.{AllPairs, AllWithin}
use Rattle.std.specs.List.Sorted.{IsPartitionPoint}
use Rattle.std.proofs.lemmas.Bool.{cases_lt, cases_eq, ne_eqb}
use Rattle.std.proofs.lemmas.List.Edits.{length-insert, get_or-insert_below, get_or-insert_at, get_or-insert_above}
use Rattle.base.specs.declared.units.Parts.{Parts}
use Rattle.tags.specs.Held.{Least, Looks}
use Rattle.tags.proofs.Ranks.{least_by_rank}
use Rattle.tags.proofs.Room.{room}
use Rattle.tags.proofs.Uses.{some_tag, some_group}
use Rattle.sorted.specs.declared.entry.Entry.{Entry}
use Rattle.sorted.specs.Rows.{precedes, differ, InOrder, Once, pair, held_in, Missing}
use Rattle.sorted.proofs.Means.{two_classes, held_at, held_row}
use Rattle.sorted.proofs.Precedes.{precedes_group, precedes_rank, precedes_back, precedes_first, follows_first}

-- what holds of each two elements still does with y put in at place p, if it holds of each element below that and y, and of y and each from there on
pub all_pairs_insert : {X : Type 0} (R : X → X → Type 0) (xs : List X) (p : ℕ) (y : X) → p ≤ length xs → AllPairs R xs → AllWithin (λ x. R x y) xs 0 p → AllWithin (R y) xs p (length xs) → AllPairs R (insert xs p y)
all_pairs_insert {X} R xs p y within all left right i j d l h =
    let long = length-insert xs p y within in
    elim (cases_lt j p) [
      | inl low ↦ rw (get_or-insert_below xs p y d i (omega arith) within, get_or-insert_below xs p y d j low within) (all i j d l (omega arith))
      | inr high ↦ elim (cases_eq j p) [
        | inl same ↦ rw (same, get_or-insert_at xs p y d within, get_or-insert_below xs p y d i (omega arith) within) (left i d (omega arith) (omega arith))
        | inr other ↦ rw (later j (omega (arith, other))) (elim (cases_lt i p) [
          | inl low ↦ rw (get_or-insert_below xs p y d i low within) (all i (j - 1) d (omega (arith, other)) (omega (arith, other)))
          | inr up ↦ elim (cases_eq i p) [
            | inl here ↦ rw (here, get_or-insert_at xs p y d within) (right (j - 1) d (omega (arith, other)) (omega (arith, other)))
            | inr past ↦ rw (later i (omega (arith, past))) (all (i - 1) (j - 1) d (omega (arith, past)) (omega (arith, other)))
          ]
        ])
      ]
    ]
  where
    later : (k : ℕ) → p < k → get_or (insert xs p y) k d ≡ get_or xs (k - 1) d
    later k up = ap (λ n. get_or (insert xs p y) n d) (omega arith) ∙ get_or-insert_above xs p y d (k - 1) (omega arith) within

apart : (a b : Entry) → a.class.value ≢ b.class.value → differ a b ≡ true
apart a b n = ap not (ne_eqb a.class.value b.class.value n)

-- e is put in where the entries before it end, and its class has no entry yet
module _ (es : List Entry) (p : ℕ) (e : Entry) (within : p ≤ length es) (new : Missing es e.class.value) where
  pub once_more : Once es → Once (insert es p e)
  once_more once =
      all_pairs_insert (λ a b. differ a b ≡ true) es p e within once
      (λ i d _ l. apart (get_or es i d) e (new i d (omega arith)))
      (λ i d _ l. apart e (get_or es i d) (λ same. new i d l (sym same)))

  pub order_more : InOrder es → IsPartitionPoint (λ a. precedes a e ≡ true) (λ a. precedes a e ≡ false) es p → InOrder (insert es p e)
  order_more sorted at =
      all_pairs_insert (λ a b. precedes a b ≡ true) es p e within sorted at.0
      (λ i d h l. precedes_back (get_or es i d) e (at.1 i d h l) (apart (get_or es i d) e (new i d l)))

module _ (es : List Entry) (once : Once es) where
  -- while a class has no entry, there is room
  pub entries_room : (e : Entry) → Missing es e.class.value → length es < 64
  entries_room e none =
      room (λ i. (get_or es i e).class.value) (length es) e.class.value e.class.small
      (λ i l. (get_or es i e).class.small)
      (λ i j low high. two_classes (get_or es i e) (get_or es j e) (once i j e low high))
      (λ i l. none i e l)

  -- p entries come before the lowest entry e that group g could have
  module _ (sorted : InOrder es) (p : ℕ) (e : Entry) (g : ℕ) (at : IsPartitionPoint (λ a. precedes a e ≡ true) (λ a. precedes a e ≡ false) es p) (group : e.group.value ≡ g) (tag : e.tag.0 ≡ 0) (class : e.class.value ≡ 0) (d : Entry) where
    -- so the entries of the group are among the others
    group_after : (i : ℕ) → i < length es → (get_or es i d).group.value ≡ g → p ≤ i
    group_after i l same =
        elim (cases_lt i p) [
          | inl low ↦ let f = precedes_first (get_or es i d) e tag class (at.0 i d (omega arith) low) in absurd (omega arith)
          | inr high ↦ high
        ]

    -- the entry of a pair of the group
    group_row : (k : ℕ) (u : Parts) → held_in es k ≡ Some (g, u) → (i : ℕ) × (i < length es) × (p ≤ i) × ((get_or es i d).group.value ≡ g) × ((get_or es i d).class.value ≡ k) × ((get_or es i d).tag.0 ≡ u.0)
    group_row k u h =
        let row = held_row es k g u d h in
        let r = get_or es row.0 d in
        let same = some_group (pair r) r.group.value g r.tag u refl row.3 in
        (row.0, row.1, group_after row.0 row.1 same, same, row.2, sym (some_tag (pair r) r.group.value g r.tag u refl row.3))

    -- none of them is at place p, so there is none
    pub group_none : (p < length es → (get_or es p d).group.value ≢ g) → Looks (held_in es) g 64 None
    group_none not k u l h =
        let i = group_row k u h in
        elim (cases_eq i.0 p) [
          | inl same ↦ let low = i.1 in not (omega arith) (ap (λ j. (get_or es j d).group.value) (sym same) ∙ i.3)
          | inr other ↦
              let low = i.1 in
              let high = i.2 in
              let up = precedes_group (get_or es p d) (get_or es i.0 d) (sorted p i.0 d (omega (arith, other)) low) in
              let from = follows_first (get_or es p d) e (at.1 p d (omega arith) (omega arith)) in
              let same = i.3 in
              not (omega arith) (omega arith)
        ]

    -- the one at place p is the least
    pub group_least : p < length es → d ≡ get_or es p d → d.group.value ≡ g → Least (held_in es) g d.class.value d.tag 64
    group_least l is same =
        let held = held_at es d.class.value p d once l (ap (λ a. a.class.value) (sym is)) ∙ ap pair (sym is) ∙ ap (λ f. Some (f, d.tag)) same in
        least_by_rank (held_in es) g d.class.value d.tag held d.class.small
        (λ k u small h.
        let i = group_row k u h in
        let class = i.4 in
        let tag = i.5 in
        elim (cases_eq i.0 p) [
          | inl here ↦
              let at = is ∙ ap (λ j. get_or es j d) (sym here) in
              let c = ap (λ a. a.class.value) at in
              let t = ap (λ a. a.tag.0) at in
              omega arith
          | inr other ↦
              let high = i.2 in
              let low = i.1 in
              let before = rw (← is) at (sorted p i.0 d (omega (arith, other)) low) in
              let up = precedes_rank d (get_or es i.0 d) before (same ∙ sym i.3) in
              omega arith
        ])
