-- What users of a store learn from its contracts, and what implementations owe. Assumes nothing.
use Rattle.std.proofs.Common.{◌≡◌, ℕ, zero, suc, ◌<◌, ◌≤◌, Bool, true, cond, eqb, ltb, Some, None, Option, sym, refl, ap, ◌∙◌, subst, inl, inr, ⊎_elim, arith}
use mathlib.Core.Path.{fun_ext}
use Rattle.std.proofs.lemmas.Bool.{lt-ltb, eq-eqb, ne_eqb, cases_lt, cases_eq, cases_Bool, ltb-true, ltb-false, eqb-true, eqb-false}
use Rattle.std.proofs.lemmas.Option.{none-some, some_pair_parts}
use Rattle.base.specs.declared.units.Parts.{Parts}
use Rattle.tags.specs.Held.{Held, with, may_put, free, among, least_of, lower, better, Looks}

pub with_same : (h : Held) (c : ℕ) (o : Option (ℕ × Parts)) → with h c o c ≡ o
with_same h c o = rw (eq-eqb c c refl)

pub with_other : (h : Held) (c : ℕ) (o : Option (ℕ × Parts)) (k : ℕ) → (k ≡ c → ⊥) → with h c o k ≡ h k
with_other h c o k n = rw (ne_eqb k c n)

-- a class that has no pair is not removed
pub with_none : (h : Held) (c : ℕ) → h c ≡ None → h ≡ with h c None
with_none h c none = fun_ext (λ k. elim (cases_eq k c) [
  | inl same ↦ rw (eq-eqb k c same) (ap h same ∙ none)
  | inr other ↦ rw (ne_eqb k c other) refl
])

-- a put that fits is done
pub put_done : (h h' : Held) (g c : ℕ) (t : Parts) (r : Bool) → r ≡ may_put h g c → h' ≡ cond r (with h c (Some (g, t))) h → g < 64 → c < 64 → h c ≡ None → h' ≡ with h c (Some (g, t))
put_done h h' g c t r answer after gl cl none =
    let a = lt-ltb g 64 gl in
    let b = lt-ltb c 64 cl in
    let f = ap free none in
    let yes' : r ≡ true = rw (a, b, f) at answer in
    rw yes' at after

pub some_tag : (o : Option (ℕ × Parts)) (f g : ℕ) (t u : Parts) → o ≡ Some (f, t) → o ≡ Some (g, u) → u.0 ≡ t.0
some_tag o f g t u p q = ap (λ v. v.0) (some_pair_parts g f u t (sym q ∙ p)).1

pub some_group : (o : Option (ℕ × Parts)) (f g : ℕ) (t u : Parts) → o ≡ Some (f, t) → o ≡ Some (g, u) → f ≡ g
some_group o f g t u p q = (some_pair_parts f g t u (sym p ∙ q)).0

pub none_some : (o : Option (ℕ × Parts)) (g : ℕ) (u : Parts) → o ≡ None → o ≡ Some (g, u) → ⊥
none_some o g u p q = none-some (g, u) (sym p ∙ q)

module _ (h : Held) (g : ℕ) where
  -- what holds of the classes below n that stand in the group, and of n if it does, holds of those below n + 1
  stands_more : (P : ℕ → Parts → Type 0) (n : ℕ) → ((k : ℕ) (u : Parts) → k < n → h k ≡ Some (g, u) → P k u) → ((u : Parts) → h n ≡ Some (g, u) → P n u) → (k : ℕ) (u : Parts) → k < suc n → h k ≡ Some (g, u) → P k u
  stands_more P n below last k u l e = elim (cases_lt k n) [
    | inl low ↦ below k u low e
    | inr high ↦ let s : k ≡ n = omega arith in subst (λ i. P i u) (sym s) (last u (subst (λ i. h i ≡ Some (g, u)) s e))
  ]

  -- class n is not in the group
  looks_pass : (n : ℕ) → ((u : Parts) → h n ≡ Some (g, u) → ⊥) → (best : Option (ℕ × Parts)) → Looks h g n best → Looks h g (suc n) best
  looks_pass n not None was = stands_more (λ k u. ⊥) n was not
  looks_pass n not (Some b) was = record {
    stands = was.stands;
    known = let w = was.known in omega arith;
    least = stands_more (λ k u. b.1.0 ≤ u.0) n was.least (λ u e. absurd (not u e));
    first = stands_more (λ k u. u.0 ≡ b.1.0 → b.0 ≤ k) n was.first (λ u e. absurd (not u e));
  }

  -- class n is in the group with tag t
  looks_more : (n : ℕ) (t : Parts) → h n ≡ Some (g, t) → (best : Option (ℕ × Parts)) → Looks h g n best → Looks h g (suc n) (lower n t best)
  looks_more n t here None was = record {
    stands = here;
    known = omega arith;
    least = stands_more (λ k u. t.0 ≤ u.0) n (λ k u l e. absurd (was k u l e)) (λ u e. let v = some_tag (h n) g g t u here e in omega arith);
    first = stands_more (λ k u. u.0 ≡ t.0 → n ≤ k) n (λ k u l e. absurd (was k u l e)) (λ u e q. omega arith);
  }
  looks_more n t here (Some b) was =
      ⊎_elim
      (λ c. let d = ltb-true t.0 b.1.0 c in rw c (record {
        stands = here;
        known = omega arith;
        least = stands_more (λ k u. t.0 ≤ u.0) n (λ k u l e. let w = was.least k u l e in omega arith) (λ u e. let v = some_tag (h n) g g t u here e in omega arith);
        first = stands_more (λ k u. u.0 ≡ t.0 → n ≤ k) n (λ k u l e q. let w = was.least k u l e in omega arith) (λ u e q. omega arith);
      }))
      (λ c. let d = ltb-false t.0 b.1.0 c in rw c (record {
        stands = was.stands;
        known = let w = was.known in omega arith;
        least = stands_more (λ k u. b.1.0 ≤ u.0) n was.least (λ u e. let v = some_tag (h n) g g t u here e in omega arith);
        first = stands_more (λ k u. u.0 ≡ b.1.0 → b.0 ≤ k) n was.first (λ u e q. let w = was.known in omega arith);
      }))
      (cases_Bool (ltb t.0 b.1.0))

  looks_better : (n : ℕ) (o : Option (ℕ × Parts)) → h n ≡ o → (best : Option (ℕ × Parts)) → Looks h g n best → Looks h g (suc n) (better g n o best)
  looks_better n None e best was = looks_pass n (λ u q. none_some (h n) g u e q) best was
  looks_better n (Some p) e best was =
      ⊎_elim
      (λ c. let s = eqb-true p.0 g c in rw c (looks_more n p.1 (e ∙ ap (λ x. Some (x, p.1)) s) best was))
      (λ c. rw c (looks_pass n (λ u q. eqb-false p.0 g c (some_group (h n) p.0 g p.1 u e q)) best was))
      (cases_Bool (eqb p.0 g))

  -- what `among` finds is the least
  among_looks : (n : ℕ) → Looks h g n (among h g n)
  among_looks zero = λ k u l e. absurd (omega arith)
  among_looks (suc n) = looks_better n (h n) refl (among h g n) (among_looks n)

  -- for users: what the defined value is, in words
  pub least_looks : Looks h g 64 (least_of h g)
  unfolding least_of
  least_looks = among_looks 64

  -- and there is no other
  looks_one : (n : ℕ) (o p : Option (ℕ × Parts)) → Looks h g n o → Looks h g n p → o ≡ p
  looks_one n None None a b = refl
  looks_one n None (Some p) a b = absurd (a p.0 p.1 b.known b.stands)
  looks_one n (Some o) None a b = absurd (b o.0 o.1 a.known a.stands)
  looks_one n (Some o) (Some p) a b =
      let x = a.least p.0 p.1 b.known b.stands in
      let y = b.least o.0 o.1 a.known a.stands in
      let t : o.1.0 ≡ p.1.0 = omega arith in
      let u = a.first p.0 p.1 b.known b.stands (sym t) in
      let v = b.first o.0 o.1 a.known a.stands t in
      let s : o.0 ≡ p.0 = omega arith in
      λ i. Some (s i, record { 0 = t i })

  -- for implementations: what meets the words is the defined value
  pub looks_least : (o : Option (ℕ × Parts)) → Looks h g 64 o → o ≡ least_of h g
  looks_least o a = looks_one 64 o (least_of h g) a least_looks
