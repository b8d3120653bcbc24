-- The way up from a class to the root, by the test `under`.
use Rattle.std.proofs.Common.{◌≡◌, ℕ, suc, ◌<◌, Bool, true, false, cond, not, ◌&&◌, ◌||◌, eqb, ltb, IfSome, Some, None, Option, sym, refl, ap, ◌∙◌, subst, inl, inr, arith}
use mathlib.Core.Path.{fun_ext}
use mathlib.Core.Bool.{and-true, and-not_self, or-false}
use Rattle.std.proofs.lemmas.Bool.{and_from, and_parts, cases_Bool, cases_eq, ltb-true, eq-eqb, ne_eqb, eqb-true, lt-ltb, or_cases, or_left, or_right}
use Rattle.rules.specs.Shape.{Shape, Sound, under}
use Rattle.rules.proofs.Tests.{no_test, not_some, same_test, some_same}
use Rattle.rules.proofs.Tree.{Below, here, up, below_under, under_below, under_le, under_parent, under_root}

-- the node above class c: none for the root and for a number that no class has
abbrev pub above : Shape → ℕ → Option ℕ
above t c = cond (ltb 0 c && ltb c t.count) (Some (t.parent c)) None

pub above_some : (t : Shape) (c node : ℕ) → Some node ≡ above t c → (0 < c) × (c < t.count) × (t.parent c ≡ node)
above_some t c node e = elim (cases_Bool (ltb 0 c && ltb c t.count)) [
  | inl y ↦ let (pos, lt) = and_parts (ltb 0 c) (ltb c t.count) y in (ltb-true 0 c pos, ltb-true c t.count lt, some_same (sym (e ∙ ap (λ b. cond b (Some (t.parent c)) None) y)))
  | inr n ↦ absurd (not_some (sym (e ∙ ap (λ b. cond b (Some (t.parent c)) None) n)))
]

pub above_none : (t : Shape) (c : ℕ) → None ≡ above t c → c < t.count → c ≡ 0
above_none t c e lt = elim (cases_eq c 0) [
  | inl z ↦ z
  | inr z ↦ absurd (not_some (e ∙ ap (λ b. cond b (Some (t.parent c)) None) (and_from (ltb 0 c) (ltb c t.count) (lt-ltb 0 c (omega arith)) (lt-ltb c t.count lt))))
]

-- the classes that a walk up from the leaf has come by, where `next` is the next one, or none once it is past the root
abbrev pub came : Shape → ℕ → Option ℕ → ℕ → Bool
came t leaf None j = under t j leaf
came t leaf (Some c) j = under t j leaf && not (under t j c)

-- class numbers fall on the way
abbrev pub to_come : Option ℕ → ℕ
to_come None = 0
to_come (Some c) = suc c

-- the next class is one of the path
abbrev pub OnPath : Shape → ℕ → Option ℕ → Type 0
OnPath t leaf next = IfSome next (λ c. under t c leaf ≡ true)

-- R holds of the marks of the classes that the walk has come by
abbrev pub Walked : Shape → ℕ → ((ℕ → Bool) → Type 0) → Option ℕ → Type 0
Walked t leaf R next = OnPath t leaf next × R (came t leaf next)

and_not : (a b : Bool) → b ≡ true → (a && not b) ≡ false
and_not true b e = ap not e
and_not false b e = refl

module _ {t : Shape} (ok : Sound t) where
  -- a class is on its own path
  pub under_self : {c : ℕ} → c < t.count → under t c c ≡ true
  under_self lt = below_under ok lt (here refl)

  -- no class is above a class with a smaller number
  pub under_not : (k c : ℕ) → c < k → under t k c ≡ false
  under_not k c l = no_test _ (λ u. omega (arith, under_le ok k c u))

  -- nothing but the root is above the root
  pub under_zero : (k : ℕ) → under t k 0 ≡ eqb k 0
  under_zero k = elim (cases_eq k 0) [
    | inl z ↦ ap (λ k. under t k 0) z ∙ under_self ok.some ∙ sym (eq-eqb k 0 z)
    | inr z ↦ under_not k 0 (omega arith) ∙ sym (ne_eqb k 0 z)
  ]

  -- one step up
  pub under_step : (k : ℕ) {c : ℕ} → 0 < c → c < t.count → under t k c ≡ (eqb k c || under t k (t.parent c))
  under_step k {c} pos lt = same_test _ _
      (λ u. go (under_below ok u))
      (λ u. elim (or_cases _ _ u) [ inl e ↦ below_under ok lt (here (sym (eqb-true k c e))) | inr e ↦ below_under ok lt (up pos (under_below ok e)) ])
    where
      go : Below t k c → (eqb k c || under t k (t.parent c)) ≡ true
      go (here e) = or_left _ _ (eq-eqb k c (sym e))
      go (up p x) = or_right (eqb k c) _ (below_under ok (omega (arith, ok.earlier c pos)) x)

  module _ (leaf : ℕ) (known : leaf < t.count) where
    -- a class of the path is a class of the tree
    pub path_known : {c : ℕ} → under t c leaf ≡ true → c < t.count
    path_known {c} u = omega (arith, under_le ok c leaf u)

    -- at first the walk has come by no class
    pub walk_none : (R : (ℕ → Bool) → Type 0) → R (λ _. false) → Walked t leaf R (Some leaf)
    walk_none R none = (under_self known, subst R (sym (fun_ext {f = came t leaf (Some leaf)} {g = λ _. false} (λ j. and-not_self (under t j leaf)))) none)

    -- past the root it has come by all of the path
    pub walk_all : (R : (ℕ → Bool) → Type 0) (next : Option ℕ) → next ≡ None → Walked t leaf R next → R (λ j. under t j leaf)
    walk_all R next is (on, was) = subst (λ o. R (came t leaf o)) is was

    -- once the walk has come by class c too, the node above that is next
    step_some : (c : ℕ) → 0 < c → under t c leaf ≡ true → (j : ℕ) → came t leaf (Some (t.parent c)) j ≡ (came t leaf (Some c) j || eqb c j)
    step_some c pos u j = elim (cases_eq c j) [
      | inl e ↦
          let off : under t j (t.parent c) ≡ false = under_not j (t.parent c) (omega (arith, ok.earlier c pos)) in
          rw (off, sym (ap (λ k. under t k leaf) e) ∙ u) (sym (or_right _ _ (eq-eqb c j e)))
      | inr e ↦
          let same : under t j c ≡ under t j (t.parent c) = under_step j pos (path_known u) ∙ ap (λ b. b || under t j (t.parent c)) (ne_eqb j c (λ z. e (sym z))) in
          rw (ne_eqb c j e, same) (sym (or-false _))
    ]

    step_none : (j : ℕ) → came t leaf None j ≡ (came t leaf (Some 0) j || eqb 0 j)
    step_none j = elim (cases_eq 0 j) [
      | inl e ↦ sym (ap (λ k. under t k leaf) e) ∙ under_root ok known ∙ sym (or_right _ _ (eq-eqb 0 j e))
      | inr e ↦ sym (rw (ne_eqb 0 j e, under_zero j, ne_eqb j 0 (λ z. e (sym z))) (or-false _ ∙ and-true _))
    ]

    step : (c : ℕ) → under t c leaf ≡ true → (j : ℕ) → (came t leaf (Some c) j || eqb c j) ≡ came t leaf (above t c) j
    step c u j = elim (cases_eq c 0) [
      | inl z ↦ subst (λ c. (came t leaf (Some c) j || eqb c j) ≡ came t leaf (above t c) j) (sym z) (sym (step_none j))
      | inr z ↦ rw (lt-ltb 0 c (omega arith), lt-ltb c t.count (path_known u)) (sym (step_some c (omega arith) u j))
    ]

    path_more : (c : ℕ) → under t c leaf ≡ true → OnPath t leaf (above t c)
    path_more c u = elim (cases_eq c 0) [
      | inl z ↦ subst (λ c. OnPath t leaf (above t c)) (sym z) tt
      | inr z ↦ rw (lt-ltb 0 c (omega arith), lt-ltb c t.count (path_known u)) (under_parent ok c leaf known u)
    ]

    -- a walk with a next class c
    module _ (next : Option ℕ) (c : ℕ) (is : next ≡ Some c) (on : OnPath t leaf next) where
      on_path : under t c leaf ≡ true
      on_path = subst (OnPath t leaf) is on

      pub next_known : c < t.count
      next_known = path_known on_path

      -- it and the node above it are still to come
      pub next_new : (came t leaf next c ≡ false) × (came t leaf next (t.parent c) ≡ false)
      next_new =
          let self = under_self next_known in (
            ap (λ o. came t leaf o c) is ∙ and_not (under t c leaf) (under t c c) self,
            ap (λ o. came t leaf o (t.parent c)) is ∙ and_not (under t (t.parent c) leaf) (under t (t.parent c) c) (under_parent ok c c next_known self),
          )

      -- the walk comes by it, and goes on
      pub walk_more : (R : (ℕ → Bool) → Type 0) (next' : Option ℕ) → next' ≡ above t c → R (λ j. came t leaf next j || eqb c j) → Walked t leaf R next'
      walk_more R next' e more =
          let alike : (j : ℕ) → (came t leaf next j || eqb c j) ≡ came t leaf next' j = λ j. ap (λ o. came t leaf o j || eqb c j) is ∙ step c on_path j ∙ ap (λ o. came t leaf o j) (sym e) in
          (subst (OnPath t leaf) (sym e) (path_more c on_path), subst R (fun_ext {f = λ j. came t leaf next j || eqb c j} {g = came t leaf next'} alike) more)
