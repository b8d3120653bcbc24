-- What the steps on the heaps leave. Assumes nothing.
use Rattle.std.proofs.Common.{◌≡◌, ℕ, ◌+◌, ◌<◌, List, [], ◌∷◌, ◌++◌, length, get_or, set, None, swap, swap_remove, sym, refl, ap, ◌∙◌, subst, inl, inr, arith}
use Rattle.std.proofs.lemmas.Grind.{common_steps}
use Rattle.std.proofs.lemmas.List.{get_or-set_same, get_or-set_other, get_or_default, get_or_past, get_or_read, get_or_append_left, length-append}
use Rattle.std.proofs.Math.Seq.{get_or-append_seam}
use Rattle.std.proofs.lemmas.List.Edits.{Swapped, swapped_from_swap, length-swap}
use Rattle.std.proofs.lemmas.Bool.{cases_lt}
use Rattle.arrayvec.specs.ArrayVec.{ArrayVec}
use Rattle.tags.specs.Held.{with}
use Rattle.tags.specs.Order.{rank}
use Rattle.tags.specs.declared.number.Number.{Number}
use Rattle.tags.proofs.Room.{room}
use Rattle.tags.proofs.Uses.{with_same, with_other}
use Rattle.heap.specs.declared.heaps.Heaps.{Heaps}
use Rattle.heap.specs.declared.standings.Standing.{Standing}
use Rattle.heap.specs.Cells.{zero, row, size, cell}
use Rattle.heap.specs.Index.{nowhere, pair_of, pair_at, place_at, group_or, tag_or, group_at, rank_at, exchanged, Index, Puts, Moves}
use Rattle.heap.specs.Keys.{count, classes, keys}
use Rattle.heap.proofs.Index.{Sets, one_place, exchange_kept, append_kept, remove_kept}

-- what F says of two exchanged values
exchanged_of : (F f f' : ℕ → ℕ) (i j : ℕ) → Swapped f f' i j → (k : ℕ) → F (f' k) ≡ exchanged (λ p. F (f p)) i j k
exchanged_of F f f' i j s k = grind (arith, common_steps, s)

-- what is read of a list from which place i has gone, and the last of which has come there
last_moved : {X : Type 0} (xs : List X) (i n : ℕ) (a d : X) → length xs ≡ n + 1 → (k : ℕ) → k < n → get_or (swap_remove xs i a) k d ≡ get_or (set xs i (get_or xs n d)) k d
last_moved xs i n a d full k l = grind (arith, common_steps, full, get_or_default xs n a d)

module _ (h : Heaps) where
  -- only groups below 64 have classes
  pub group_known : (g i : ℕ) → i < count h g → g < 64
  group_known g i l =
      elim (cases_lt g 64) [
        | inl known ↦ known
        | inr past ↦ let n = h.groups in let e = ap (λ v. length v.items) (get_or_past h.heaps g (record { items = [] }) (omega arith)) in absurd (omega arith)
      ]

  pub class_known : (g i : ℕ) → classes h g i < 64
  class_known g i = (get_or (row h.heaps g) i zero).small

  -- while a class does not stand, no heap is full
  pub heap_room : (g : ℕ) (k : Number) → pair_at h.standings.rows k.value ≡ None → count h g < 64
  heap_room g k free =
      room (classes h g) (count h g) k.value k.small
      (λ i l. class_known g i)
      (λ i j low high e. grind (arith, h.index.placed g i, h.index.placed g j))
      (λ i l e. grind (arith, h.index.placed g i, ap group_or free, group_known g i))

  -- the heap of group g is written, which a step finds at q
  module _ (g q : ℕ) (at : q ≡ g) (ql : q < 64) where
    known : q < length h.heaps
    known = let n = h.groups in omega arith

    pub row_read : (d : ArrayVec Number) → (get_or h.heaps q d).items ≡ row h.heaps g
    row_read d = ap (λ v. v.items) (get_or_default h.heaps q d (record { items = [] }) known) ∙ ap (row h.heaps) at

    module _ (v : ArrayVec Number) where
      pub row_here : row (set h.heaps q v) g ≡ v.items
      row_here = ap (row (set h.heaps q v)) (sym at) ∙ ap (λ w. w.items) (get_or-set_same h.heaps q v (record { items = [] }) known)

      row_else : (j : ℕ) → (j ≡ g → ⊥) → row (set h.heaps q v) j ≡ row h.heaps j
      row_else j n = ap (λ w. w.items) (get_or-set_other h.heaps q j v (record { items = [] }) (λ e. n (e ∙ at)))

      pub sizes : Sets (size h.heaps) (size (set h.heaps q v)) g (length v.items)
      sizes = record { here = ap length row_here; else = λ j n. ap length (row_else j n) }

      pub away : (j k : ℕ) → (j ≡ g → ⊥) → cell (set h.heaps q v) j k ≡ classes h j k
      away j k n = ap (λ r. (get_or r k zero).value) (row_else j n)

      pub cell_here : (k : ℕ) → cell (set h.heaps q v) g k ≡ (get_or v.items k zero).value
      cell_here k = ap (λ r. (get_or r k zero).value) row_here

-- class k alone has another pair
module _ (rows rows' : List Standing) (k : ℕ) (o : Standing) (pairs : pair_at rows' ≡ with (pair_at rows) k (pair_of o)) where
  groups_put : (g : ℕ) → group_or (pair_of o) ≡ g → Sets (group_at rows) (group_at rows') k g
  groups_put g group = record {
    here = ap (λ p. group_or (p k)) pairs ∙ (ap group_or (with_same (pair_at rows) k (pair_of o)) ∙ group);
    else = λ j n. ap (λ p. group_or (p j)) pairs ∙ ap group_or (with_other (pair_at rows) k (pair_of o) j n);
  }

  rank_put : (j : ℕ) → (j ≡ k → ⊥) → rank_at rows' j ≡ rank_at rows j
  rank_put j n = ap (λ p. rank (tag_or (p j)) j) pairs ∙ ap (λ p. rank (tag_or p) j) (with_other (pair_at rows) k (pair_of o) j n)

-- the tables after an exchange of the classes at places i and j of the heap of group g
pub record Exchanges (h : Heaps) (rows : List Standing) (heaps : List (ArrayVec Number)) (g i j : ℕ) : Type 0 where
  pub index : Index (group_at rows) (place_at rows) (size heaps) (cell heaps)
  pub pairs : pair_at rows ≡ pair_at h.standings.rows
  pub lens : (q : ℕ) → size heaps q ≡ count h q
  pub cells : (k : ℕ) → cell heaps g k ≡ exchanged (classes h g) i j k
  pub ranks : (k : ℕ) → rank_at rows (cell heaps g k) ≡ exchanged (keys h g) i j k
  pub others : (q k : ℕ) → (q ≡ g → ⊥) → rank_at rows (cell heaps q k) ≡ keys h q k

-- a, who stood at j, and b, who stood at i, are told the places that they have then
pub exchange_leaves : (h : Heaps) (g q i j : ℕ) → q ≡ g → q < 64 → i < count h g → j < count h g → (v : ArrayVec Number) → v.items ≡ swap (row h.heaps g) i j → (a b : Number) → a ≡ get_or (row h.heaps g) j a → b ≡ get_or (row h.heaps g) i b → (rows₁ rows' : List Standing) → Moves h.standings.rows rows₁ a.value i → Moves rows₁ rows' b.value j → Exchanges h rows' (set h.heaps q v) g i j
exchange_leaves h g q i j at ql il jl v e a b at_i at_j rows₁ rows' one two =
    let rows = h.standings.rows in
    let heaps' = set h.heaps q v in
    let long = ap length e ∙ length-swap (row h.heaps g) i j in
    let here = cell_here h g q at ql v in
    let s = swapped_from_swap (row h.heaps g) v.items i j zero il jl e in
    let cells : Swapped (classes h g) (cell heaps' g) i j = (here i ∙ ap (λ n. n.value) s.0, here j ∙ ap (λ n. n.value) s.1, λ k ni nj. here k ∙ ap (λ n. n.value) (s.2 k ni nj)) in
    let far = away h g q at ql v in
    let lens : (p : ℕ) → size heaps' p ≡ count h p = λ p. grind (arith, sizes h g q at ql v, long) in
    let ea : a.value ≡ cell heaps' g i = ap (λ n. n.value) (get_or_read (row h.heaps g) j a jl at_i zero) ∙ sym cells.0 in
    let eb : b.value ≡ cell heaps' g j = ap (λ n. n.value) (get_or_read (row h.heaps g) i b il at_j zero) ∙ sym cells.1 in
    let told₁ = subst (λ k. Sets (place_at rows) (place_at rows₁) k i) ea (record { here = one.place; else = one.places }) in
    let told₂ = subst (λ k. Sets (place_at rows₁) (place_at rows') k j) eb (record { here = two.place; else = two.places }) in
    let pairs = two.pairs ∙ one.pairs in
    let ranks = λ (y : ℕ). ap (λ p. rank (tag_or (p y)) y) pairs in
    record {
      index = exchange_kept h.index g i j il jl (λ k. ap (λ p. group_or (p k)) pairs) lens cells far told₁ told₂;
      pairs = pairs;
      lens = lens;
      cells = exchanged_of (λ y. y) (classes h g) (cell heaps' g) i j cells;
      ranks = λ k. ranks (cell heaps' g k) ∙ exchanged_of (rank_at rows) (classes h g) (cell heaps' g) i j cells k;
      others = λ q k n. ranks (cell heaps' q k) ∙ ap (rank_at rows) (far q k n);
    }

-- the tables after class k, which did not stand, has come to the end of the heap of group g
pub record Appends (h : Heaps) (rows : List Standing) (heaps : List (ArrayVec Number)) : Type 0 where
  pub index : Index (group_at rows) (place_at rows) (size heaps) (cell heaps)
  pub ranks : (p i : ℕ) → i < count h p → rank_at rows (cell heaps p i) ≡ keys h p i

pub append_leaves : (h : Heaps) (g q : ℕ) (k : Number) (o : Standing) → q ≡ g → q < 64 → group_or (pair_of o) ≡ g → o.place ≡ count h g → pair_at h.standings.rows k.value ≡ None → (v : ArrayVec Number) → v.items ≡ row h.heaps g ++ k ∷ [] → (rows' : List Standing) → Puts h.standings.rows rows' k.value o → Appends h rows' (set h.heaps q v)
append_leaves h g q k o at ql group place free v e rows' put =
    let rows = h.standings.rows in
    let heaps' = set h.heaps q v in
    let s = sizes h g q at ql v in
    let long = ap length e ∙ length-append (row h.heaps g) (k ∷ []) in
    let cells = λ (i : ℕ). cell_here h g q at ql v i ∙ ap (λ r. (get_or r i zero).value) e in
    let top : cell heaps' g (count h g) ≡ k.value = cells (count h g) ∙ ap (λ c. c.value) (get_or-append_seam (row h.heaps g) k [] zero) in
    let low : (p i : ℕ) → i < count h p → cell heaps' p i ≡ classes h p i = λ p i l. grind (arith, cells i, get_or_append_left (row h.heaps g) (k ∷ []) zero i, away h g q at ql v p i) in
    let free_group = ap group_or free in
    let stood : (p i : ℕ) → i < count h p → classes h p i ≡ k.value → ⊥ = λ p i l c. grind (arith, h.index.placed p i l, free_group, group_known h p i l) in
    record {
      index = append_kept h.index g k.value (group_known h) free_group top low (groups_put rows rows' k.value o put.pairs g group) (record { here = put.place ∙ place; else = put.places }) (record { here = s.here ∙ long; else = s.else });
      ranks = λ p i l. ap (rank_at rows') (low p i l) ∙ rank_put rows rows' k.value o put.pairs (classes h p i) (stood p i l);
    }

-- the tables after the class at place i of the heap of group g has gone, and the last of the heap has come there
pub record Removes (h : Heaps) (rows : List Standing) (heaps : List (ArrayVec Number)) (g i : ℕ) : Type 0 where
  pub index : Index (group_at rows) (place_at rows) (size heaps) (cell heaps)
  pub ranks : (k : ℕ) → k < size heaps g → rank_at rows (cell heaps g k) ≡ exchanged (keys h g) i (size heaps g) k
  pub others : (p k : ℕ) → (p ≡ g → ⊥) → k < count h p → rank_at rows (cell heaps p k) ≡ keys h p k

-- z, the last, is told its new place, and then a is put out
pub remove_leaves : (h : Heaps) (g q i n : ℕ) → q ≡ g → q < 64 → i < count h g → count h g ≡ n + 1 → (v : ArrayVec Number) (a z : Number) → a ≡ get_or (row h.heaps g) i a → z ≡ get_or (row h.heaps g) n z → v.items ≡ swap_remove (row h.heaps g) i a → (rows₁ rows' : List Standing) → Moves h.standings.rows rows₁ z.value i → Puts rows₁ rows' a.value nowhere → Removes h rows' (set h.heaps q v) g i
remove_leaves h g q i n at ql il full v a z goes ends e rows₁ rows' move put =
    let rows = h.standings.rows in
    let heaps' = set h.heaps q v in
    let xs = row h.heaps g in
    let s = sizes h g q at ql v in
    let long : length v.items ≡ n = ap length e ∙ grind (arith, common_steps, full) in
    let counts : Sets (size h.heaps) (size heaps') g n = record { here = s.here ∙ long; else = s.else } in
    let far = away h g q at ql v in
    let gone : a.value ≡ classes h g i = ap (λ c. c.value) (get_or_read xs i a il goes zero) in
    let last : z.value ≡ classes h g n = ap (λ c. c.value) (get_or_read xs n z (omega arith) ends zero) in
    let item : (k : ℕ) → k < n → cell heaps' g k ≡ (get_or (set xs i (get_or xs n zero)) k zero).value = λ k l. cell_here h g q at ql v k ∙ (ap (λ r. (get_or r k zero).value) e ∙ ap (λ (c : Number). c.value) (last_moved xs i n a zero full k l)) in
    let here : i < n → cell heaps' g i ≡ classes h g n = λ l. item i l ∙ ap (λ c. c.value) (get_or-set_same xs i (get_or xs n zero) zero il) in
    let rest : (k : ℕ) → k < n → (k ≡ i → ⊥) → cell heaps' g k ≡ classes h g k = λ k l ne. item k l ∙ ap (λ c. c.value) (get_or-set_other xs i k (get_or xs n zero) zero ne) in
    let apart : (p k : ℕ) → k < count h p → (p ≡ g → k ≡ i → ⊥) → classes h p k ≡ a.value → ⊥ = λ p k l ne c. let o = one_place h.index p g k i l il (c ∙ gone) in ne o.0 o.1 in
    let stands = ap (group_at rows) last ∙ (h.index.placed g n (omega arith)).0 in
    let gl : g < 64 = omega arith in
    let told : i < n → place_at rows' (classes h g n) ≡ i = λ l. grind (arith, apart g n, put.places, last, move.place) in
    let places : (j : ℕ) → (j ≡ classes h g i → ⊥) → (j ≡ classes h g n → ⊥) → place_at rows' j ≡ place_at rows j = λ j na nz. grind (arith, gone, last, put.places j, move.places j) in
    let pairs : pair_at rows' ≡ with (pair_at rows) a.value None = put.pairs ∙ ap (λ f. with f a.value None) move.pairs in
    let kept = rank_put rows rows' a.value nowhere pairs in
    record {
      index = remove_kept h.index g i n full il (subst (λ k. Sets (group_at rows) (group_at rows') k 64) gone (groups_put rows rows' a.value nowhere pairs 64 refl)) counts far here rest told places;
      ranks = subst (λ m. (k : ℕ) → k < m → rank_at rows' (cell heaps' g k) ≡ exchanged (keys h g) i m k) (sym counts.here) (λ k l. grind (arith, common_steps, here, rest k, kept (classes h g n), kept (classes h g k), apart g n, apart g k));
      others = λ p k ne l. ap (rank_at rows') (far p k ne) ∙ kept (classes h p k) (apart p k l (λ c _. ne c));
    }
