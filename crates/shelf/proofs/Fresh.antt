-- A new link table: every place is free. Assumes nothing.
use Rattle.std.proofs.Common.{◌≡◌, ℕ, zero, suc, ◌+◌, ◌-◌, ◌<◌, ◌≤◌, List, [], length, get_or, set, replicate, sum_by, sym, refl, ap, ◌∙◌, subst, ⊎_elim, arith}
use Rattle.std.proofs.lemmas.List.{get_or-set_other}
use Rattle.std.proofs.lemmas.Bool.{cases_eq, cases_lt}
use Rattle.shelf.specs.Chains.{walk, row, spot, Inside, Apart, Ends}
use Rattle.shelf.specs.Tables.{line}
use Rattle.shelf.specs.declared.table.Chain.{Chain}
use Rattle.shelf.specs.declared.table.LinkTable.{LinkTable}
use Rattle.shelf.proofs.Lines.{line_in, line_out}

abbrev none : Chain
none = record { head = 0; tail = 0; len = 0 }

nought : (n k : ℕ) → row (replicate n none) k ≡ none
nought zero k = refl
nought (suc n) zero = refl
nought (suc n) (suc k) = nought n k

-- each place but the last links to the one above it
climb : (next : List ℕ) → ((k : ℕ) → k < 256 → get_or next k 0 ≡ k + 1) → (n p i : ℕ) → i < n → p + n ≤ 256 → get_or (walk next n p) i 0 ≡ p + i
climb next up zero p i l m = absurd (omega arith)
climb next up (suc n) p zero l m = omega arith
climb next up (suc n) p (suc i) l m =
    let e = ap (λ q. get_or (walk next n q) i 0) (up p (omega arith)) ∙ climb next up n (p + 1) i (omega arith) (omega arith) in
    let s : p + 1 + i ≡ p + suc i = omega arith in
    e ∙ s

module _ (next : List ℕ) (size tail : ℕ) (long : length next ≡ 256) (up : (k : ℕ) → k < 256 → get_or next k 0 ≡ k + 1) (small : size ≤ 256) (tail-is : tail ≡ size - 1) where
  abbrev chains : List Chain
  chains = set (replicate 65 none) 64 (record { head = 0; tail = tail; len = size })

  other : (k : ℕ) → (k ≡ 64 → ⊥) → row chains k ≡ none
  other k n = get_or-set_other (replicate 65 none) 64 k _ none n ∙ nought 65 k

  only : (k i : ℕ) → i < (row chains k).len → k ≡ 64
  only k i l = ⊎_elim (λ e. e) (λ n. let z = ap (λ c. c.len) (other k n) in absurd (omega arith)) (cases_eq k 64)

  here : (i : ℕ) → i < size → spot next chains 64 i ≡ i
  here i l = climb next up size 0 i l (omega arith) ∙ omega arith

  at : (k i : ℕ) → i < (row chains k).len → (spot next chains k i ≡ i) × (i < size)
  at k i l =
      let e = only k i l in
      let m : i < size = subst (λ j. i < (row chains j).len) e l in
      (subst (λ j. spot next chains j i ≡ i) (sym e) (here i m), m)

  pub inside : Inside next chains size
  inside k i l = let a = at k i l in omega arith

  pub apart : Apart next chains
  apart q h = (only q.0 q.1 h.0 ∙ sym (only q.2 q.3 h.1), sym (at q.0 q.1 h.0).0 ∙ h.2 ∙ (at q.2 q.3 h.1).0)

  pub ends : Ends next chains
  ends k l =
      let e = only k 0 l in
      let m : 0 < size = subst (λ j. 0 < (row chains j).len) e l in
      subst (λ j. (row chains j).tail ≡ spot next chains j ((row chains j).len - 1)) (sym e) (tail-is ∙ sym (here (size - 1) (omega arith)))

  pub total : sum_by (λ c. c.len) chains ≡ size
  total = omega arith

  abbrev pub table : LinkTable
  table = record { next = next; chains = chains; size = size; long = (long, refl); all = (small, total); inside = inside; apart = apart; ends = ends }

  pub empty : (k : ℕ) → line table k ≡ []
  empty k = ⊎_elim
      (λ l. line_in table k l ∙ ap (λ c. walk next c.len c.head) (other k (λ e. omega arith)))
      (line_out table k)
      (cases_lt k 64)
