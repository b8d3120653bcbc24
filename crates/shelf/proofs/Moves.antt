-- One move: the first place of chain `from` goes to the end of chain `to`. Assumes nothing.
use Rattle.std.proofs.Common.{◌≡◌, ℕ, suc, ◌+◌, ◌-◌, ◌<◌, cond, ◌&&◌, eqb, List, [], ◌∷◌, ◌++◌, length, get_or, drop, set, sum_by, Some, sym, refl, ap, ◌∙◌, subst, ap₂, ◌⊎◌, ⊎_elim, arith}
use Rattle.std.proofs.lemmas.List.{get_or-set_same, get_or-set_other, get_or-drop, get_or_append_left, get_or_push, length-set}
use Rattle.std.proofs.lemmas.List.Sums.{sum_by-set}
use Rattle.std.proofs.lemmas.Bool.{cases_eq, cases_lt, eq-eqb, ne_eqb}
use Rattle.shelf.specs.Chains.{walk, row, chain, spot, Inside, Apart, Ends, moved, first}
use Rattle.shelf.specs.declared.table.Chain.{Chain}
use Rattle.shelf.specs.declared.table.LinkTable.{LinkTable}
use Rattle.shelf.proofs.Walks.{length_walk, walk_first, walk_drop, first_is, frame, extend}

module _ (t : LinkTable) (from to place : ℕ) (ends : ℕ × ℕ)
    (known : (from < 65) × (to < 65) × (from ≡ to → ⊥)) (first-is : first (chain t.next t.chains from) ≡ Some place)
    (ends-are : (((row t.chains to).len ≡ 0) × (ends ≡ (place, place))) ⊎ (((row t.chains to).len ≡ 0 → ⊥) × (ends ≡ ((row t.chains to).head, (row t.chains to).tail)))) where
  -- the first place of chain `to` afterwards, and the last that it had, or the place that is moved
  abbrev head : ℕ
  head = ends.0

  abbrev last : ℕ
  last = ends.1

  abbrev next : List ℕ
  next = t.next

  abbrev rows : List Chain
  rows = t.chains

  abbrev len : ℕ → ℕ
  len k = (row rows k).len

  abbrev at : ℕ → ℕ → ℕ
  at k i = spot next rows k i

  abbrev gained : Chain
  gained = record { head = head; tail = place; len = len to + 1 }

  abbrev lost : Chain
  lost = record { head = get_or next place 0; tail = (row rows from).tail; len = len from - 1 }

  abbrev next' : List ℕ
  next' = set next last place

  abbrev rows' : List Chain
  rows' = set (set rows to gained) from lost

  some : 0 < len from
  some = (first_is next (len from) (row rows from).head place first-is).0

  place_is : (row rows from).head ≡ place
  place_is = (first_is next (len from) (row rows from).head place first-is).1

  place_at : at from 0 ≡ place
  place_at = walk_first next (len from) (row rows from).head some ∙ place_is

  place_in : place < t.size
  place_in = subst (λ p. p < t.size) place_at (t.inside from 0 some)

  ends_empty : len to ≡ 0 → ends ≡ (place, place)
  ends_empty e = ⊎_elim (λ h. h.1) (λ h. absurd (h.0 e)) ends-are

  ends_full : (len to ≡ 0 → ⊥) → ends ≡ ((row rows to).head, (row rows to).tail)
  ends_full n = ⊎_elim (λ h. absurd (n h.0)) (λ h. h.1) ends-are

  last_empty : len to ≡ 0 → last ≡ place
  last_empty e = ap (λ q. q.1) (ends_empty e)

  last_full : (len to ≡ 0 → ⊥) → last ≡ at to (len to - 1)
  last_full n = ap (λ q. q.1) (ends_full n) ∙ t.ends to (omega arith)

  pub last_in : last < 256
  last_in = ⊎_elim
      (λ e. let p = place_in in let q = last_empty e in omega arith)
      (λ n. let q = last_full n in let p = t.inside to (len to - 1) (omega arith) in omega arith)
      (cases_eq (len to) 0)

  -- no other place has the link that is written
  clear : (j i : ℕ) → (j ≡ to → ⊥) → i < len j → (j ≡ from → 0 < i) → at j i ≡ last → ⊥
  clear j i nt l nf e = ⊎_elim
      (λ z. let same = t.apart (j, i, from, 0) (l, some, e ∙ last_empty z ∙ sym place_at) in let k = nf same.0 in let q = same.1 in omega arith)
      (λ n. nt (t.apart (j, i, to, len to - 1) (l, omega arith, e ∙ last_full n)).0)
      (cases_eq (len to) 0)

  nt : to ≡ from → ⊥
  nt e = known.2 (sym e)

  -- each chain's ends and length
  row_to : row rows' to ≡ gained
  row_to = get_or-set_other (set rows to gained) from to lost _ nt ∙ get_or-set_same rows to gained _ (omega (arith, t.long.1))

  row_from : row rows' from ≡ lost
  row_from = get_or-set_same (set rows to gained) from lost _ (let e = length-set rows to gained in omega (arith, t.long.1))

  row_other : (j : ℕ) → (j ≡ to → ⊥) → (j ≡ from → ⊥) → row rows' j ≡ row rows j
  row_other j a b = get_or-set_other (set rows to gained) from j lost _ b ∙ get_or-set_other rows to j gained _ a

  -- each chain
  abbrev was : ℕ → List ℕ
  was k = chain next rows k

  to_empty : len to ≡ 0 → walk next' (len to + 1) head ≡ was to ++ place ∷ []
  to_empty z =
      let h : head ≡ place = ap (λ q. q.0) (ends_empty z) in
      let one : len to + 1 ≡ 1 = omega arith in
      ap (λ n. walk next' n head) one ∙ ap (λ p. p ∷ []) h ∙ ap (λ n. walk next n (row rows to).head ++ place ∷ []) (sym z)

  to_full : (len to ≡ 0 → ⊥) → walk next' (len to + 1) head ≡ was to ++ place ∷ []
  to_full n =
      let h : head ≡ (row rows to).head = ap (λ q. q.0) (ends_full n) in
      let m = len to - 1 in
      let s : len to ≡ suc m = omega arith in
      let two : len to + 1 ≡ suc (suc m) = omega arith in
      let l : last < length next = let q = last_in in omega arith in
      let end : get_or (walk next (suc m) (row rows to).head) m 0 ≡ last = ap (λ w. get_or (walk next w (row rows to).head) m 0) (sym s) ∙ sym (last_full n) in
      let out : (i : ℕ) → i < m → get_or (walk next (suc m) (row rows to).head) i 0 ≡ last → ⊥ = λ i a e.
      let same = t.apart (to, i, to, m) (omega arith, omega arith, ap (λ w. get_or (walk next w (row rows to).head) i 0) s ∙ e ∙ last_full n) in let q = same.1 in omega arith in
      ap (walk next' (len to + 1)) h ∙ ap (λ w. walk next' w (row rows to).head) two ∙ extend next m (row rows to).head last place l end out ∙ ap (λ w. walk next w (row rows to).head ++ place ∷ []) (sym s)

  at_to : chain next' rows' to ≡ was to ++ place ∷ []
  at_to = ap (λ c. walk next' c.len c.head) row_to ∙ ⊎_elim to_empty to_full (cases_eq (len to) 0)

  at_from : chain next' rows' from ≡ drop 1 (was from)
  at_from =
      let d = ap (λ p. walk next (len from - 1) (get_or next p 0)) (sym place_is) ∙ walk_drop next (len from) (row rows from).head some in
      ap (λ c. walk next' c.len c.head) row_from
      ∙ frame next (len from - 1) (get_or next place 0) last place (λ i l e. clear from (1 + i) known.2 (omega arith) (λ _. omega arith) (sym (ap (λ w. get_or w i 0) d ∙ get_or-drop 1 (was from) i 0) ∙ e))
      ∙ d

  at_other : (j : ℕ) → (j ≡ to → ⊥) → (j ≡ from → ⊥) → chain next' rows' j ≡ was j
  at_other j a b = ap (λ c. walk next' c.len c.head) (row_other j a b) ∙ frame next (len j) (row rows j).head last place (λ i l e. clear j i a l (λ f. absurd (b f)) e)

  -- what the move does to every chain
  pub chains : (j : ℕ) → chain next' rows' j ≡ moved was from to place j
  chains j = ⊎_elim
      (λ e. rw (eq-eqb j to e, e) at_to)
      (λ a. ⊎_elim
      (λ e. rw (ne_eqb j to a, eq-eqb j from e, e) at_from)
      (λ b. rw (ne_eqb j to a, ne_eqb j from b) (at_other j a b))
      (cases_eq j from))
      (cases_eq j to)

  -- each place of a chain stood at one place of a chain before: at (k, i) before, it stands at (back_lane k i, back_at k i) now
  abbrev back_lane : ℕ → ℕ → ℕ
  back_lane k i = cond (eqb k from && eqb i 0) to k

  abbrev back_at : ℕ → ℕ → ℕ
  back_at k i = cond (eqb k from) (cond (eqb i 0) (len to) (i - 1)) i

  record Stood (k i : ℕ) : Type 0 where
    lane : ℕ
    pos : ℕ
    within : pos < len lane
    same : spot next' rows' k i ≡ spot next rows lane pos
    to_lane : back_lane lane pos ≡ k
    to_pos : back_at lane pos ≡ i

  stood : (k i : ℕ) → i < (row rows' k).len → Stood k i
  stood k i l = ⊎_elim
      (λ e. ⊎_elim
      (λ b. let b' : i < length (was to) = let w = length_walk next (len to) (row rows to).head in omega arith in record {
        lane = to;
        pos = i;
        within = b;
        same = rw e (ap (λ w. get_or w i 0) at_to ∙ get_or_append_left (was to) (place ∷ []) 0 i b');
        to_lane = rw (ne_eqb to from nt) (sym e);
        to_pos = rw (ne_eqb to from nt) refl;
      })
      (λ b. let q = ap (λ c. c.len) row_to in let l' : i < (row rows' to).len = subst (λ j. i < (row rows' j).len) e l in let z : i ≡ len to = omega arith in record {
        lane = from;
        pos = 0;
        within = some;
        same = rw e (ap (λ w. get_or w i 0) at_to ∙ get_or_push (was to) place 0 i (length_walk next (len to) (row rows to).head ∙ sym z) ∙ sym place_at);
        to_lane = rw (eq-eqb from from refl) (sym e);
        to_pos = rw (eq-eqb from from refl) (sym z);
      })
      (cases_lt i (len to)))
      (λ a. ⊎_elim
      (λ e. let q = ap (λ c. c.len) row_from in let l' : i < (row rows' from).len = subst (λ j. i < (row rows' j).len) e l in record {
        lane = from;
        pos = 1 + i;
        within = omega arith;
        same = rw e (ap (λ w. get_or w i 0) at_from ∙ get_or-drop 1 (was from) i 0);
        to_lane = let n : 1 + i ≡ 0 → ⊥ = λ z. omega arith in rw (eq-eqb from from refl, ne_eqb (1 + i) 0 n) (sym e);
        to_pos = let n : 1 + i ≡ 0 → ⊥ = λ z. omega arith in let back : 1 + i - 1 ≡ i = omega arith in rw (eq-eqb from from refl, ne_eqb (1 + i) 0 n) back;
      })
      (λ b. record {
        lane = k;
        pos = i;
        within = subst (λ n. i < n) (ap (λ c. c.len) (row_other k a b)) l;
        same = ap (λ w. get_or w i 0) (at_other k a b);
        to_lane = rw (ne_eqb k from b) refl;
        to_pos = rw (ne_eqb k from b) refl;
      })
      (cases_eq k from))
      (cases_eq k to)

  pub inside' : Inside next' rows' t.size
  inside' k i l = let s = stood k i l in subst (λ p. p < t.size) (sym s.same) (t.inside s.lane s.pos s.within)

  pub apart' : Apart next' rows'
  apart' q h =
      let s = stood q.0 q.1 h.0 in
      let u = stood q.2 q.3 h.1 in
      let one = t.apart (s.lane, s.pos, u.lane, u.pos) (s.within, u.within, sym s.same ∙ h.2 ∙ u.same) in
      (sym s.to_lane ∙ ap₂ back_lane one.0 one.1 ∙ u.to_lane, sym s.to_pos ∙ ap₂ back_at one.0 one.1 ∙ u.to_pos)

  pub ends' : Ends next' rows'
  ends' k l = ⊎_elim
      (λ e. let q = ap (λ c. c.len) row_to in let z : (row rows' to).len - 1 ≡ len to = omega arith in
      rw e (ap (λ c. c.tail) row_to ∙ sym (ap (λ w. get_or w ((row rows' to).len - 1) 0) at_to ∙ get_or_push (was to) place 0 _ (length_walk next (len to) (row rows to).head ∙ sym z))))
      (λ a. ⊎_elim
      (λ e. let q = ap (λ c. c.len) row_from in let l' : 0 < (row rows' from).len = subst (λ j. 0 < (row rows' j).len) e l in let z : 1 + ((row rows' from).len - 1) ≡ len from - 1 = omega arith in
      rw e (ap (λ c. c.tail) row_from ∙ t.ends from some ∙ sym (ap (λ w. get_or w ((row rows' from).len - 1) 0) at_from ∙ get_or-drop 1 (was from) ((row rows' from).len - 1) 0 ∙ ap (λ i. get_or (was from) i 0) z)))
      (λ b. let q = ap (λ c. c.len) (row_other k a b) in
      ap (λ c. c.tail) (row_other k a b) ∙ t.ends k (subst (λ n. 0 < n) q l) ∙ sym (ap (λ w. get_or w ((row rows' k).len - 1) 0) (at_other k a b) ∙ ap (λ n. get_or (was k) (n - 1) 0) q))
      (cases_eq k from))
      (cases_eq k to)

  pub total' : sum_by (λ c. c.len) rows' ≡ t.size
  total' =
      let n = t.long.1 in
      let s = t.all.1 in
      let some-left = some in
      let m = length-set rows to gained in
      let one = sum_by-set (λ c. c.len) rows to gained (row [] 0) (omega arith) in
      let two = sum_by-set (λ c. c.len) (set rows to gained) from lost (row [] 0) (omega arith) in
      let f : (row (set rows to gained) from).len ≡ len from = ap (λ c. c.len) (get_or-set_other rows to from gained _ known.2) in
      omega arith

  pub long' : (length next' ≡ 256) × (length rows' ≡ 65)
  long' = (length-set next last place ∙ t.long.0, length-set (set rows to gained) from lost ∙ length-set rows to gained ∙ t.long.1)

  -- the table afterwards
  abbrev pub after : LinkTable
  after = record { next = next'; chains = rows'; size = t.size; long = long'; all = (t.all.0, total'); inside = inside'; apart = apart'; ends = ends' }
