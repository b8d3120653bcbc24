-- What the calls read of a shelf and do to it, as the rules have it. Assumes nothing.
use Rattle.std.proofs.Common.{◌≡◌, ℕ, zero, suc, ◌+◌, ◌<◌, ◌≤◌, true, false, cond, not, ◌&&◌, eqb, ltb, leb, List, [], ◌∷◌, length, drop, Some, None, Ok, Err, Option, Result, sym, refl, ap, ◌∙◌, subst, inl, inr, arith}
use mathlib.Core.Path.{fun_ext}
use Rattle.std.proofs.lemmas.Bool.{cases_eq, eq-eqb, ne_eqb, lt-ltb, le-leb, lt-leb, and_from, cond-true, cond-false}
use Rattle.base.specs.declared.refusal.Refusal.{Refusal}
use Rattle.base.specs.declared.refusal.Refusal.TheVariants.{ShelfFull}
use Rattle.rules.specs.Kind.{Kind}
use Rattle.rules.specs.State.{State, sum, put, stored}
use Rattle.rules.specs.Rules.{head_cost, may_stop, settled}
use Rattle.rules.proofs.Tests.{not_some, some_same}
use Rattle.shelf.specs.Chains.{first}
use Rattle.shelf.specs.Lanes.{lanes, room, free, sum_below, putting, rest_of, headed}
use Rattle.shelf.specs.declared.shelf.Shelf.{Shelf}
use Rattle.shelf.proofs.Totals.{stored_below}
use Rattle.tree.proofs.Sums.{term_low}

sum_below_is : (f : ℕ → ℕ) (n : ℕ) → sum_below f n ≡ sum f n
sum_below_is f zero = refl
sum_below_is f (suc n) = ap (λ x. f n + x) (sum_below_is f n)

-- the number of lanes stays a variable here, since a sum up to a numeral would be written out
module _ {I : Type 0} {K : Kind I} (sh : Shelf I K) where
  filled : (n : ℕ) → n ≡ 64 → sum (λ l. length (lanes sh l)) n + free sh ≡ room sh
  filled n e = ap (λ x. x + free sh) (sym (sum_below_is (λ l. length (lanes sh l)) n)) ∙ stored_below sh n e

  low_by : (n : ℕ) → n ≡ 64 → (k : ℕ) → k < 64 → 0 < free sh → length (lanes sh k) < 256
  low_by n e k lt some = join _ _ _ _ (term_low (λ l. length (lanes sh l)) n k (omega arith)) (filled n e) sh.table.all.0 some
    where
      join : (a b x z : ℕ) → a ≤ b → b + x ≡ z → z ≤ 256 → 0 < x → a < 256
      join a b x z p q r t = omega arith

  -- a lane of a shelf with a free place has fewer than 256 items
  pub lane_low : (k : ℕ) → k < 64 → 0 < free sh → length (lanes sh k) < 256
  lane_low = low_by 64 refl

  module _ (s : State I) (is : s.lane ≡ lanes sh) where
    stored_by : (n : ℕ) → n ≡ 64 → stored s + free sh ≡ room sh
    unfolding stored
    stored_by n e = ap (λ m. sum (λ l. length (s.lane l)) m + free sh) (sym e) ∙ ap (λ f. sum (λ l. length (f l)) n + free sh) is ∙ filled n e

    -- each place has an item or is free
    pub stored_room : stored s + free sh ≡ room sh
    stored_room = stored_by 64 refl

-- putting an item of a right cost into a lane of a class
module _ (lane cost free : ℕ) (known : lane < 64) (low : 1 ≤ cost) (high : cost ≤ 65535) where
  full_or_done : putting lane cost free ≡ cond (eqb free 0) (Err ShelfFull) (Ok tt)
  full_or_done =
      cond-false (leb 64 lane) _ _ (lt-leb 64 lane known)
      ∙ cond-false (not (leb 1 cost && leb cost 65535)) _ _ (ap not (and_from _ _ (le-leb 1 cost low) (le-leb cost 65535 high)))

  -- is refused where no place is free
  pub put_refused : (e : Refusal) → Err e ≡ putting lane cost free → (e ≡ ShelfFull) × (free ≡ 0)
  put_refused e is = elim (cases_eq free 0) [
    | inl z ↦ let full : Err e ≡ Err ShelfFull = is ∙ full_or_done ∙ cond-true (eqb free 0) (Err ShelfFull) (Ok tt) (eq-eqb free 0 z) in (err_same e ShelfFull full, z)
    | inr some ↦ let fine : Err e ≡ Ok tt = is ∙ full_or_done ∙ cond-false (eqb free 0) (Err ShelfFull) (Ok tt) (ne_eqb free 0 some) in absurd (not_ok e fine)
  ]
    where
      err_same : (x y : Refusal) → ◌≡◌ {A = Result (Unit {0}) Refusal} (Err x) (Err y) → x ≡ y
      err_same x y e = cc

      not_ok : (x : Refusal) → ◌≡◌ {A = Result (Unit {0}) Refusal} (Err x) (Ok tt) → ⊥
      not_ok x e = let z : ◌≡◌ {A = ℕ} 0 1 = cc in omega arith

  -- and done where one is
  pub put_done : (u : Unit {0}) → Ok u ≡ putting lane cost free → 0 < free
  put_done u is = elim (cases_eq free 0) [
    | inl z ↦ absurd (not_err u (is ∙ full_or_done ∙ cond-true (eqb free 0) (Err ShelfFull) (Ok tt) (eq-eqb free 0 z)))
    | inr some ↦ omega arith
  ]
    where
      not_err : (u : Unit {0}) → ◌≡◌ {A = Result (Unit {0}) Refusal} (Ok u) (Err ShelfFull) → ⊥
      not_err u e = let z : ◌≡◌ {A = ℕ} 0 1 = cc in omega arith

-- one lane is changed by f
pub lane_put : {X : Type 0} (f : List X → List X) (l l' : ℕ → List X) (c : ℕ) → ((j : ℕ) → l' j ≡ cond (eqb j c) (f (l j)) (l j)) → l' ≡ put l c (f (l c))
lane_put f l l' c e = fun_ext {f = l'} {g = put l c (f (l c))} (λ j. e j ∙ elim (cases_eq j c) [
  | inl is ↦ cond-true (eqb j c) (f (l j)) (l j) (eq-eqb j c is) ∙ ap (λ j. f (l j)) is ∙ sym (cond-true (eqb j c) (f (l c)) (l j) (eq-eqb j c is))
  | inr off ↦ cond-false (eqb j c) (f (l j)) (l j) (ne_eqb j c off) ∙ sym (cond-false (eqb j c) (f (l c)) (l j) (ne_eqb j c off))
])

-- an empty lane has no head
pub no_head : {X : Type 0} (xs : List X) → None ≡ first xs → length xs ≡ 0
no_head [] e = refl
no_head (x ∷ xs) e = absurd (not_some e)

-- what a call reads of a lane that has n items counted in it
module _ {X : Type 0} (xs : List X) (n : ℕ) where
  -- nothing: the lane is not as long as counted, since some are
  pub unread : 0 < n → None ≡ cond (eqb (length xs) n) (first xs) None → eqb (length xs) n ≡ false
  unread some e = elim (cases_eq (length xs) n) [
    | inl is ↦ absurd (some_items (no_head xs (e ∙ cond-true (eqb (length xs) n) (first xs) None (eq-eqb _ _ is))) is)
    | inr off ↦ ne_eqb _ _ off
  ]
    where
      some_items : length xs ≡ 0 → length xs ≡ n → ⊥
      some_items z is = omega arith

  -- its head: the lane is as long as counted
  pub head_full : (x : X) → Some x ≡ cond (eqb (length xs) n) (first xs) None → (length xs ≡ n) × (Some x ≡ first xs)
  head_full x e = elim (cases_eq (length xs) n) [
    | inl is ↦ (is, e ∙ cond-true (eqb (length xs) n) (first xs) None (eq-eqb _ _ is))
    | inr off ↦ absurd (not_some (sym (e ∙ cond-false (eqb (length xs) n) (first xs) None (ne_eqb _ _ off))))
  ]

  -- so some are counted
  pub head_counted : (x : X) → Some x ≡ cond (eqb (length xs) n) (first xs) None → 0 < n
  head_counted x e = let (full, head) = head_full x e in subst (λ n. 0 < n) full (some_items xs head)
    where
      some_items : (xs : List X) → Some x ≡ first xs → 0 < length xs
      some_items [] e = absurd (not_some (sym e))
      some_items (y ∷ ys) e = omega arith

module _ {I : Type 0} (K : Kind I) (x : I) where
  -- what the rules read of a lane is what the head says
  pub head_read : (xs : List I) → Some x ≡ first xs → (head_cost K xs ≡ K.costs x) × ((d : ℕ) → may_stop K xs d ≡ K.stops x d)
  head_read [] e = absurd (not_some (sym e))
  head_read (y ∷ xs) e = let is = some_same (sym e) in (ap K.costs is, λ d. ap (λ y. K.stops y d) is)

  head_gone : (xs : List I) (d : ℕ) → Some x ≡ first xs → d ≡ K.costs x → drop 1 xs ≡ settled K xs d
  head_gone [] d e all = refl
  head_gone (y ∷ xs) d e all =
      let is = some_same (sym e) in
      sym (cond-true (eqb d (K.costs y)) xs (K.left y d ∷ xs) (eq-eqb d (K.costs y) (all ∙ ap K.costs (sym is))))

  head_left : (xs : List I) (d : ℕ) (r : Option I) → Some x ≡ first xs → d < K.costs x → K.stops x d ≡ true → r ≡ rest_of K.costs K.stops K.left xs d → headed r xs ≡ settled K xs d
  head_left [] d r e less stops is = absurd (not_some (sym e))
  head_left (y ∷ xs) d r e less stops is =
      let same = some_same (sym e) in
      let less' : d < K.costs y = subst (λ y. d < K.costs y) (sym same) less in
      let stops' : K.stops y d ≡ true = ap (λ y. K.stops y d) same ∙ stops in
      ap (λ r. headed r (y ∷ xs)) (is ∙ cond-true (ltb d (K.costs y) && K.stops y d) (Some (K.left y d)) None (and_from _ _ (lt-ltb d (K.costs y) less') stops'))
      ∙ sym (cond-false (eqb d (K.costs y)) xs (K.left y d ∷ xs) (ne_eqb d (K.costs y) (λ e. omega arith)))

  -- the head of lane c has done d units
  module _ (l l' : ℕ → List I) (c d : ℕ) (head : Some x ≡ first (l c)) where
    -- it leaves its lane when that is all its cost
    pub all_done : d ≡ K.costs x → ((j : ℕ) → l' j ≡ cond (eqb j c) (drop 1 (l j)) (l j)) → l' ≡ put l c (settled K (l c) d)
    all_done all e = lane_put (drop 1) l l' c e ∙ ap (put l c) (head_gone (l c) d head all)

    -- otherwise what is left takes its place
    pub some_left : (r : Option I) → d < K.costs x → K.stops x d ≡ true → r ≡ rest_of K.costs K.stops K.left (l c) d → ((j : ℕ) → l' j ≡ cond (eqb j c) (headed r (l j)) (l j)) → l' ≡ put l c (settled K (l c) d)
    some_left r less stops is e = lane_put (headed r) l l' c e ∙ ap (put l c) (head_left (l c) d r head less stops is)
