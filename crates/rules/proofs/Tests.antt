-- Tests and choices, and functions changed at one number. Assumes nothing.
use Rattle.std.proofs.Common.{◌≡◌, ℕ, ◌<◌, Bool, true, false, cond, eqb, Some, None, Decides, sym, refl, ap, ◌∙◌, arith}
use Rattle.std.proofs.lemmas.Bool.{eqb-true, eqb-false, cond_both}
use Rattle.std.proofs.lemmas.Bool.Decides.{Decides-below_or}
use Rattle.rules.specs.Shape.{any}
use Rattle.rules.specs.State.{put}

-- a test that cannot pass fails
pub no_test : (x : Bool) → (x ≡ true → ⊥) → x ≡ false
no_test true f = absurd (f refl)
no_test false f = refl

-- two tests that pass together are one
pub same_test : (x y : Bool) → (x ≡ true → y ≡ true) → (y ≡ true → x ≡ true) → x ≡ y
same_test true y f g = sym (f refl)
same_test false true f g = g refl
same_test false false f g = refl

-- `any` says that the test passes somewhere below n
pub any_decides : (p : ℕ → Bool) (n : ℕ) → Decides (any p n) ((k : ℕ) × (k < n) × (p k ≡ true))
any_decides p n = Decides-below_or p (λ k. p k ≡ true) (any p) (λ k. (λ e. e, λ e. e)) refl (λ _. refl) n

-- two choices by one test, equal where the test leads
pub cond_same : {A : Type 0} {b c : Bool} {x y x' y' : A} → b ≡ c → (c ≡ true → x ≡ x') → (c ≡ false → y ≡ y') → cond b x y ≡ cond c x' y'
cond_same {A} {b} {c = true} {x} {y} e f h = ap (λ z. cond z x y) e ∙ f refl
cond_same {A} {b} {c = false} {x} {y} e f h = ap (λ z. cond z x y) e ∙ h refl

-- a function changed at one number: what holds of the new value there and of the old one elsewhere
pub put_both : {A : Type 0} (f : ℕ → A) (c : ℕ) (a : A) (k : ℕ) (P : A → Type 0) → (k ≡ c → P a) → ((k ≡ c → ⊥) → P (f k)) → P (put f c a k)
put_both f c a k P here there = cond_both (eqb k c) a (f k) P (λ e. here (eqb-true k c e)) (λ e. there (eqb-false k c e))

-- nothing is not something
pub not_some : {A : Type 0} {x : A} → None ≡ Some x → ⊥
not_some {A} {x} e = let z : ◌≡◌ {A = ℕ} 0 1 = cc in omega arith

-- something is one thing
pub some_same : {A : Type 0} {x y : A} → Some x ≡ Some y → x ≡ y
some_same {A} {x} {y} e = cc
