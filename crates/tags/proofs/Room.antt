-- As long as a class is missing, fewer than 64 places are used. Assumes nothing.
use Rattle.std.proofs.Common.{◌≡◌, ℕ, ◌<◌, false, List, ◌∷◌, map, length, get_or, eqb, sym, ◌∙◌, arith}
use Rattle.std.specs.List.{All, IsDistinct, range_with_len}
use Rattle.std.proofs.lemmas.Bool.{ne_eqb, eqb-true}
use Rattle.std.proofs.lemmas.List.Elements.{All-cons, All-contains, recursion_from_All}
use Rattle.std.proofs.lemmas.List.FromFn.{length-map-range_with_len, get_or-map-range_with_len}
use Rattle.std.proofs.lemmas.Map.Keys.{IsDistinct-cons, IsDistinct-from_apart}
use Rattle.std.proofs.lemmas.Map.Steps.{length-le_from_distinct_below}
use Rattle.std.proofs.lemmas.Map.Views.{Contains-from_any}

-- the first n values of f are below 64, no two are equal, and c is none of them
module _ (f : ℕ → ℕ) (n c : ℕ) (low : c < 64) (below : (i : ℕ) → i < n → f i < 64) (once : (i j : ℕ) → i < j → j < n → f i ≡ f j → ⊥) (missing : (i : ℕ) → i < n → f i ≡ c → ⊥) where
  abbrev values : List ℕ
  values = map f (range_with_len 0 n)

  value_at : (i d : ℕ) → i < length values → (i < n) × (get_or values i d ≡ f i)
  value_at i d l =
      let long = length-map-range_with_len f 0 n in
      let in_list : i < n = omega arith in
      (in_list, get_or-map-range_with_len f 0 n i i d in_list (omega arith))

  each_below : All (λ k. k < 64) (c ∷ values)
  each_below = All-cons (λ k. k < 64) c values low (λ i d l. let at = value_at i d l in rw at.1 (below i at.0))

  distinct : IsDistinct eqb (c ∷ values)
  distinct =
      IsDistinct-cons eqb c values
      (recursion_from_All (λ k. eqb c k ≡ false) values (λ i d l. let at = value_at i d l in ne_eqb c (get_or values i d) (λ same. missing i at.0 (sym (same ∙ at.1)))))
      (IsDistinct-from_apart eqb values (λ i j d less l.
      let second = value_at j d l in
      let first = value_at i d (omega arith) in
      ne_eqb (get_or values i d) (get_or values j d) (λ same. once i j less second.0 (sym first.1 ∙ same ∙ second.1))))

  pub room : n < 64
  room =
      let long = length-map-range_with_len f 0 n in
      let fits = length-le_from_distinct_below (c ∷ values) 64 distinct (λ q found. All-contains (λ k. k < 64) (c ∷ values) q each_below (Contains-from_any eqb-true q (c ∷ values) found)) in
      omega arith
