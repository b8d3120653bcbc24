-- What the costs of the items in the lanes are after each change. Assumes nothing.
use Rattle.std.proofs.Common.{◌≡◌, ℕ, ◌-◌, ◌<◌, ◌≤◌, Bool, cond, ◌&&◌, eqb, ltb, List, [], ◌∷◌, ◌++◌, drop, Some, None, sym, ap, subst, arith}
use Rattle.std.proofs.lemmas.Bool.{cond_both}
use Rattle.std.proofs.ByRecursion.{All-push, All-drop}
use Rattle.std.specs.List.{AllByRecursion}
use Rattle.shelf.specs.Chains.{first}
use Rattle.shelf.specs.Lanes.{headed, rest_of}

module _ {X : Type 0} (costs : X → ℕ) where
  abbrev pub Fair : X → Type 0
  Fair x = (1 ≤ costs x) × (costs x ≤ 65535)

  head_fair : (xs : List X) (x : X) → first xs ≡ Some x → AllByRecursion Fair xs → Fair x
  head_fair [] x e p = absurd (cc)
  head_fair (y ∷ xs) x e p = let same : y ≡ x = cc in subst Fair same p.0

  headed_fair : (xs : List X) (y : X) → Fair y → AllByRecursion Fair xs → AllByRecursion Fair (headed (Some y) xs)
  headed_fair [] y f p = p
  headed_fair (x ∷ xs) y f p = (f, p.1)

  -- the lanes before and after
  module _ (f f' : ℕ → List X) (k : ℕ) (priced : (j : ℕ) → AllByRecursion Fair (f j)) where
    -- only lane k is another one
    changed : (g : List X → List X) → ((j : ℕ) → AllByRecursion Fair (g (f j))) → ((j : ℕ) → f' j ≡ cond (eqb j k) (g (f j)) (f j)) → (j : ℕ) → AllByRecursion Fair (f' j)
    changed g fair e j = subst (AllByRecursion Fair) (sym (e j)) (cond_both (eqb j k) (g (f j)) (f j) (AllByRecursion Fair) (λ _. fair j) (λ _. priced j))

    pub put_priced : (x : X) → Fair x → ((j : ℕ) → f' j ≡ cond (eqb j k) (f j ++ x ∷ []) (f j)) → (j : ℕ) → AllByRecursion Fair (f' j)
    put_priced x h = changed (λ xs. xs ++ x ∷ []) (λ j. All-push Fair (f j) x (priced j) h)

    pub remove_priced : ((j : ℕ) → f' j ≡ cond (eqb j k) (drop 1 (f j)) (f j)) → (j : ℕ) → AllByRecursion Fair (f' j)
    remove_priced = changed (drop 1) (λ j. All-drop Fair 1 (f j) (priced j))

    pub rest_priced : (x y : X) (d : ℕ) → first (f k) ≡ Some x → d < costs x → costs y ≡ costs x - d → ((j : ℕ) → f' j ≡ cond (eqb j k) (headed (Some y) (f j)) (f j)) → (j : ℕ) → AllByRecursion Fair (f' j)
    rest_priced x y d is l c =
        let h = head_fair (f k) x is (priced k) in
        let g : Fair y = (omega (arith, h.0), omega (arith, h.1)) in
        changed (headed (Some y)) (λ j. headed_fair (f j) y g (priced j))

  pub rest_first : (stops : X → ℕ → Bool) (left : X → ℕ → X) (xs : List X) (x : X) (d : ℕ) → first xs ≡ Some x → rest_of costs stops left xs d ≡ cond (ltb d (costs x) && stops x d) (Some (left x d)) None
  rest_first stops left [] x d e = absurd (cc)
  rest_first stops left (y ∷ xs) x d e = let same : y ≡ x = cc in ap (λ w. cond (ltb d (costs w) && stops w d) (Some (left w d)) None) same
