-- The first byte that cuts a text, and what the test of a word tells.
use Rattle.std.proofs.Common.{◌≡◌, ℕ, zero, suc, ◌+◌, ◌-◌, ◌<◌, ◌≤◌, leb, Bool, true, false, List, [], ◌∷◌, ◌++◌, length, take, drop, Some, None, Ok, Err, IsUtf8, IsAscii, Decides, Option, Result, MatchOption, MatchResult, ◌==◌, sym, refl, ap, ◌∙◌, subst, ⊎_elim, arith, Bor}
use Rattle.std.specs.Bool.{then_some}
use Rattle.std.specs.Result.{result_ok}
use Rattle.std.specs.List.{AllByRecursion, list_all, position}
use Rattle.std.proofs.ByRecursion.{All-from_get_or}
use Rattle.std.proofs.lemmas.Bool.{true≢false, eqb-true, eq-eqb}
use Rattle.std.proofs.lemmas.Bool.Decides.{Decides-and, Decides-like, not_from_Decides, nat_tests}
use Rattle.std.proofs.lemmas.List.{take-append-drop, drop_more, take_rest, get_or-take, length-take-le}
use Rattle.std.proofs.lemmas.List.Quantifiers.{position-Some}
use Rattle.std.proofs.lemmas.Str.{IsUtf8-from_ascii}
use Rattle.base.specs.Words.{plain, is_word}
use Rattle.text.specs.Words.{Free, Plain, Word}

-- the first byte of its kind cuts the list
pub found : (bs : List ℕ) (i at : ℕ) → position (λ b. b == at) bs ≡ Some i → Free at (take i bs) × (bs ≡ take i bs ++ at ∷ take (length bs - (i + 1)) (drop (i + 1) bs))
found bs i at p =
    let first = position-Some (λ b. b == at) bs i 0 p in
    let free : Free at (take i bs) = All-from_get_or _ (take i bs) 0 (λ k h e.
    let low : k < i = omega (arith, length-take-le i bs (omega (arith, first.0))) in
    absurd (true≢false (sym (eq-eqb _ _ (sym (get_or-take i bs k 0 low) ∙ e)) ∙ first.2 k low))) in
    rw take_rest (free, sym (take-append-drop i bs) ∙ ap (λ l. take i bs ++ l) (drop_more bs i 0 first.0 ∙ ap (λ x. x ∷ drop (i + 1) bs) (eqb-true _ _ first.1)))

-- the test of the bytes of a word, and of a word
plain_told : (b : ℕ) → Decides (plain b) (Plain b)
plain_told b = grind (arith, nat_tests)

at_most_told : (a b : ℕ) → Decides (leb a b) (a ≤ b)
at_most_told a b = grind (arith, nat_tests)

all_told : (bs : List ℕ) → Decides (list_all plain bs) (AllByRecursion Plain bs)
all_told [] = (λ _. tt, λ _. refl)
all_told (b ∷ bs) = Decides-and _ _ (plain_told b) (all_told bs)

word_told : (bs : List ℕ) → Decides (is_word 10 bs) (Word bs)
word_told bs =
    Decides-like _ (λ q. record { some = q.0; short = q.1.0; plain = q.1.1 }) (λ w. (w.some, (w.short, w.plain)))
    (Decides-and _ _ (at_most_told 1 (length bs)) (Decides-and _ _ (at_most_told (length bs) 10) (all_told bs)))

-- a word is text
word_utf8 : (bs : List ℕ) → Word bs → IsUtf8 bs
word_utf8 bs w = IsUtf8-from_ascii bs (low bs w.plain)
  where
    low : (cs : List ℕ) → AllByRecursion Plain cs → IsAscii cs
    low [] h i = omega arith
    low (c ∷ cs) h zero = ⊎_elim (λ q. omega (arith, q.1)) (λ q. omega (arith, q.1)) h.0
    low (c ∷ cs) h (suc i) = low cs h.1 i

some_none : (s : Bor (List ℕ)) → ◌≡◌ {A = Option (Bor (List ℕ))} (Some s) None → ⊥
some_none s e = cc

some_same : (s w : Bor (List ℕ)) → ◌≡◌ {A = Option (Bor (List ℕ))} (Some s) (Some w) → s ≡ w
some_same s w e = cc

-- what the test of a word lets through
pub not_word : (bs s : Bor (List ℕ)) (t : Bool) (p : Option (Bor (List ℕ))) → t ≡ is_word 10 bs.now → p ≡ then_some t s → p ≡ None → Word bs.now → ⊥
not_word bs s true p test e none = absurd (some_none s (sym e ∙ none))
not_word bs s false p test e none = not_from_Decides _ (word_told bs.now) (sym test)

pub its_word : (bs w : Bor (List ℕ)) (t : Bool) (p : Option (Bor (List ℕ))) → t ≡ is_word 10 bs.now → p ≡ then_some t bs → p ≡ Some w → Word bs.now × (w ≡ bs)
its_word bs w true p test e some = ((word_told bs.now).0 (sym test), sym (some_same bs w (sym e ∙ some)))
its_word bs w false p test e some = absurd (some_none w (sym some ∙ e))

pub as_text : {E : Type 0} (X : E → Type 0) (bs w : Bor (List ℕ)) (r : Result (Bor (List ℕ)) E) (o : Option (Bor (List ℕ))) → o ≡ result_ok r → MatchResult r (λ s. (s.now ≡ w.now) × IsUtf8 w.now) (λ e. (IsUtf8 w.now → ⊥) × X e) → Word bs.now × (w ≡ bs) → MatchOption o (Word bs.now → ⊥) (λ s. Word s.now × (s.now ≡ bs.now))
as_text X bs w (Ok s) o e h (is, same) = let now = h.0 ∙ ap (λ b. b.now) same in rw e (subst Word (sym now) is, now)
as_text X bs w (Err d) o e h (is, same) = absurd (h.0 (word_utf8 w.now (subst Word (sym (ap (λ b. b.now) same)) is)))
