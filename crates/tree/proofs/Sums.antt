-- Sums over the classes. Assumes nothing.
use Rattle.std.proofs.Common.{◌≡◌, ℕ, zero, suc, ◌+◌, ◌*◌, ◌<◌, ◌≤◌, Bool, cond, sym, refl, ap, ◌∙◌, subst, inl, inr, ⊎_elim, arith}
use Rattle.std.proofs.lemmas.Bool.{cases_eq, cases_lt, eq-eqb, ne_eqb}
use Rattle.rules.specs.State.{sum, put}

-- equal terms make equal sums
pub sum_same : (f f' : ℕ → ℕ) (n : ℕ) → ((l : ℕ) → l < n → f' l ≡ f l) → sum f' n ≡ sum f n
sum_same f f' zero e = refl
sum_same f f' (suc n) e = omega (arith, e n (omega arith), sum_same f f' n (λ l lt. e l (omega arith)))

-- a sum above 0 has a term above 0
pub sum_some : (f : ℕ → ℕ) (n : ℕ) → 0 < sum f n → (l : ℕ) × (l < n) × (0 < f l)
sum_some f zero p = absurd (omega arith)
sum_some f (suc n) p = ⊎_elim
    (λ l. (n, omega arith, l))
    (λ z. let (l, lt, q) = sum_some f n (omega arith) in (l, omega arith, q))
    (cases_lt 0 (f n))

-- no term is above the sum
pub term_low : (f : ℕ → ℕ) (n l : ℕ) → l < n → f l ≤ sum f n
term_low f zero l lt = absurd (omega arith)
term_low f (suc n) l lt = elim (cases_eq l n) [
  | inl e ↦ subst (λ l. f l ≤ sum f (suc n)) (sym e) (omega arith)
  | inr e ↦ omega (arith, term_low f n l (omega arith))
]

-- n terms of at most 256
pub sum_low : (f : ℕ → ℕ) (n : ℕ) → ((l : ℕ) → f l ≤ 256) → sum f n ≤ 256 * n
sum_low f zero low = omega arith
sum_low f (suc n) low = omega (arith, low n, sum_low f n low)

-- one term changes
sum_change : (f f' : ℕ → ℕ) (c n : ℕ) → c < n → ((l : ℕ) → (l ≡ c → ⊥) → f' l ≡ f l) → sum f' n + f c ≡ sum f n + f' c
sum_change f f' c zero lt e = absurd (omega arith)
sum_change f f' c (suc n) lt e = elim (cases_eq c n) [
  | inl s ↦ subst (λ c. sum f' (suc n) + f c ≡ sum f (suc n) + f' c) (sym s) (omega (arith, sum_same f f' n (λ l m. e l (omega arith))))
  | inr s ↦ omega (arith, sum_change f f' c n (omega arith) e, e n (λ z. s (sym z)))
]

-- of the terms that a test picks, the one at c becomes a
pub sum_put : (p : ℕ → Bool) (q : ℕ → ℕ) (c a n : ℕ) → c < n → sum (λ l. cond (p l) (put q c a l) 0) n + cond (p c) (q c) 0 ≡ sum (λ l. cond (p l) (q l) 0) n + cond (p c) a 0
sum_put p q c a n lt =
    sum_change (λ l. cond (p l) (q l) 0) (λ l. cond (p l) (put q c a l) 0) c n lt (λ l off. ap (λ b. cond (p l) (cond b a (q l)) 0) (ne_eqb l c off))
    ∙ ap (λ b. sum (λ l. cond (p l) (q l) 0) n + cond (p c) (cond b a (q c)) 0) (eq-eqb c c refl)
