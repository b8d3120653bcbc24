-- Which line some bytes are, and that no other is.
use Rattle.std.proofs.Common.{◌≡◌, ℕ, ◌<◌, List, [], ◌∷◌, ◌++◌, sym, refl, ◌∙◌, subst, arith}
use Rattle.std.proofs.lemmas.Fmt.{digits_decimal}
use Rattle.std.proofs.ByRecursion.{All-append, All-from_get_or}
use Rattle.std.proofs.lemmas.Str.Parse.{digit_at}
use Rattle.text.specs.Words.{Free, Small, numeral}
use Rattle.text.proofs.Ends.{cut_once}
use Rattle.text.proofs.Numbers.{own}
use Rattle.plans.specs.declared.line.Line.{Line}
use Rattle.plans.specs.declared.line.Line.TheVariants.{Link, Outage, Item}
use Rattle.plans.specs.Lines.{fields, initial, Misformed, Proper, written}

-- what holds a byte is not free of it
pub not_free : (b : ℕ) (xs us : List ℕ) → Free b (xs ++ b ∷ us) → ⊥
not_free b [] us f = f.0 refl
not_free b (x ∷ xs) us f = not_free b xs us f.1

-- no numeral holds a space or a line end
pub numeral_free : (b n : ℕ) → b < 48 → Small n → Free b (numeral n)
numeral_free b n low small = All-from_get_or (λ c. c ≡ b → ⊥) (numeral n) 0 (λ i h e. omega (arith, (digit_at (numeral n) i (digits_decimal own n (omega arith)) h).0))

-- behind the letter o stand two numerals
pub only_outage : (k : ℕ) (bs : List ℕ) → k ≡ 111 → ((o n : ℕ) → Small o → Small n → numeral o ++ 32 ∷ numeral n ≡ bs → ⊥) → (l : Line) → Proper l → initial l ≡ k → fields l ≡ bs → ⊥
only_outage k bs is none (Link r) p i f = omega arith
only_outage k bs is none (Outage o n) p i f = none o n p.0 p.1 f
only_outage k bs is none (Item c) p i f = omega arith

-- they are cut at the space
pub both_cut : (xs ys : List ℕ) (o n : ℕ) → Small o → Free 32 xs → numeral o ++ 32 ∷ numeral n ≡ xs ++ 32 ∷ ys → (numeral o ≡ xs) × (numeral n ≡ ys)
both_cut xs ys o n small free e = cut_once 32 (numeral o) xs (numeral n) ys (numeral_free 32 o (omega arith) small) free e

initial_free : (b : ℕ) → b < 48 → (l : Line) → Free b (initial l ∷ [])
initial_free b low (Link r) = ((λ e. omega arith), tt)
initial_free b low (Outage o n) = ((λ e. omega arith), tt)
initial_free b low (Item c) = ((λ e. omega arith), tt)

-- a line is cut behind its letter
pub letter_cut : (bs w rest : List ℕ) → Free 32 w → bs ≡ w ++ 32 ∷ rest → (l : Line) → written l ≡ bs → (initial l ∷ [] ≡ w) × (fields l ≡ rest)
letter_cut bs w rest free cut l e = cut_once 32 (initial l ∷ []) w (fields l) rest (initial_free 32 (omega arith) l) free (e ∙ cut)

fields_free : (l : Line) → Proper l → Free 10 (fields l)
fields_free (Link r) p = numeral_free 10 r (omega arith) p
fields_free (Outage o n) p = All-append _ (numeral o) (32 ∷ numeral n) (numeral_free 10 o (omega arith) p.0) ((λ e. omega arith), numeral_free 10 n (omega arith) p.1)
fields_free (Item c) p = numeral_free 10 c (omega arith) p

written_free : (l : Line) → Proper l → Free 10 (written l)
written_free l p = ((initial_free 10 (omega arith) l).0, ((λ e. omega arith), fields_free l p))

-- bytes without a line end begin with no line
pub no_end : (bs : List ℕ) → Free 10 bs → Misformed bs
no_end bs free l more p e = not_free 10 (written l) more (subst (Free 10) (sym e) free)

-- nor do bytes that are no line up to the first line end
pub no_line : (bs bytes more : List ℕ) → Free 10 bytes → bs ≡ bytes ++ 10 ∷ more → ((l : Line) → Proper l → written l ≡ bytes → ⊥) → Misformed bs
no_line bs bytes more free cut none l us p e = none l p (cut_once 10 _ _ _ _ (written_free l p) free (e ∙ cut)).0
