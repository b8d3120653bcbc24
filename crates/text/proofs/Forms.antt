-- Which line some words are, and that no other is.
use Rattle.std.proofs.Common.{◌≡◌, ℕ, ◌+◌, ◌<◌, Bool, true, false, cond, eqb, Option, MatchOption, Decides, List, [], ◌∷◌, ◌++◌, length, sym, refl, ap, ◌∙◌, ⊎_elim, append-nil, arith, length-append}
use Rattle.std.specs.Bool.{then_some}
use Rattle.std.specs.List.{AllByRecursion}
use Rattle.std.proofs.lemmas.Bool.Decides.{not_from_Decides}
use Rattle.std.proofs.lemmas.Fmt.{digits_decimal}
use Rattle.std.proofs.ByRecursion.{All-weaker, All-from_get_or}
use Rattle.std.proofs.lemmas.List.{nil_from_length}
use Rattle.std.proofs.lemmas.Str.Parse.{digit_at}
use Rattle.text.specs.declared.line.Line.{Line}
use Rattle.text.specs.declared.line.Line.TheVariants.{Class, Link, Outage, Event as event}
use Rattle.text.specs.declared.line.Event.TheVariants.{Submit, Dispatch, Pulse, End, GiveUp}
use Rattle.text.specs.Words.{Word, Plain, Free, Small, numeral}
use Rattle.text.specs.Lines.{initial, fields, spaced, written, Proper}
use Rattle.text.specs.Cursor.{splits}
use Rattle.text.proofs.Numbers.{own}
use Rattle.text.proofs.Splits.{splits_spaced, spaced_splits}

-- lists by their heads and tails
pub heads : {X : Type 0} (x y : X) (xs ys : List X) → x ∷ xs ≡ y ∷ ys → x ≡ y
heads x y xs ys e = cc

pub tails : {X : Type 0} (x y : X) (xs ys : List X) → x ∷ xs ≡ y ∷ ys → xs ≡ ys
tails x y xs ys e = cc

-- no word holds a space or a line end
module _ (b : ℕ) (low : b < 48) where
  word_free : (w : List ℕ) → Word w → Free b w
  word_free w h = All-weaker Plain (λ c. c ≡ b → ⊥) (λ c p e. ⊎_elim (λ q. omega (arith, q.0)) (λ q. omega (arith, q.0)) p) w h.plain

  numeral_free : (n : ℕ) → Small n → Free b (numeral n)
  numeral_free n s = All-from_get_or (λ c. c ≡ b → ⊥) (numeral n) 0 (λ i h e. omega (arith, (digit_at (numeral n) i (digits_decimal own n (omega arith)) h).0))

  pub words_free : (l : Line) → Proper l → AllByRecursion (Free b) (fields l)
  words_free (Class n p w) h = (word_free _ h.0, (word_free _ h.1, (numeral_free w h.2, tt)))
  words_free (Link r) h = (numeral_free r h, tt)
  words_free (Outage o k) h = (numeral_free o h.0, (numeral_free k h.1, tt))
  words_free (event (Submit n c)) h = (word_free _ h.0, (numeral_free c h.1, tt))
  words_free (event Dispatch) h = tt
  words_free (event Pulse) h = tt
  words_free (event End) h = tt
  words_free (event GiveUp) h = tt

  pub initial_free : (l : Line) → Free b (initial l ∷ [])
  initial_free (Class n p w) = ((λ e. omega arith), tt)
  initial_free (Link r) = ((λ e. omega arith), tt)
  initial_free (Outage o k) = ((λ e. omega arith), tt)
  initial_free (event (Submit n c)) = ((λ e. omega arith), tt)
  initial_free (event Dispatch) = ((λ e. omega arith), tt)
  initial_free (event Pulse) = ((λ e. omega arith), tt)
  initial_free (event End) = ((λ e. omega arith), tt)
  initial_free (event GiveUp) = ((λ e. omega arith), tt)

-- a proper line's bytes hold its words
pub splits_written : (l : Line) → Proper l → splits (written l) ≡ (initial l ∷ []) ∷ fields l
splits_written l h = splits_spaced (initial l ∷ []) (fields l) (initial_free 32 (omega arith) l, words_free 32 (omega arith) l h)

-- how many words follow a letter
arity : ℕ → ℕ
arity k = cond (eqb k 99) 3 (cond (eqb k 108) 1 (cond (eqb k 111) 2 (cond (eqb k 97) 2 0)))

count : (l : Line) → length (fields l) ≡ arity (initial l)
unfolding arity
count (Class n p w) = refl
count (Link r) = refl
count (Outage o k) = refl
count (event (Submit n c)) = refl
count (event Dispatch) = refl
count (event Pulse) = refl
count (event End) = refl
count (event GiveUp) = refl

-- a first word of one letter
pub lettered : (bs : List ℕ) (w : List ℕ) (k : ℕ) (ws rest : List (List ℕ)) → ws ≡ splits bs → ws ≡ w ∷ rest → w ≡ k ∷ [] → splits bs ≡ (k ∷ []) ∷ rest
lettered bs w k ws rest all first one = sym all ∙ first ∙ ap (λ v. v ∷ rest) one

module _ (bs : List ℕ) (k : ℕ) (rest : List (List ℕ)) (cut : splits bs ≡ (k ∷ []) ∷ rest) where
  same : (l : Line) → Proper l → written l ≡ bs → (initial l ≡ k) × (fields l ≡ rest)
  same l p e =
      let all : (initial l ∷ []) ∷ fields l ≡ (k ∷ []) ∷ rest = sym (splits_written l p) ∙ ap splits e ∙ cut in
      (heads _ _ _ _ (heads _ _ _ _ all), tails _ _ _ _ all)

  -- without a form for the letter there is no line
  pub no_form : ((l : Line) (ws : List (List ℕ)) → Proper l → initial l ≡ k → rest ≡ fields l ++ ws → ⊥) → (l : Line) → Proper l → written l ≡ bs → ⊥
  no_form none l p e = let s = same l p e in none l [] p s.0 (sym s.1 ∙ sym (append-nil (fields l)))

  pub no_end : (m : Line) (more : List (List ℕ)) → initial m ≡ k → rest ≡ fields m ++ more → (more ≡ [] → ⊥) → (l : Line) → Proper l → written l ≡ bs → ⊥
  no_end m more i f some l p e =
      let s = same l p e in
      let long : length (fields l) ≡ length (fields m) + length more = ap length (s.1 ∙ f) ∙ length-append (fields m) more in
      let even : length (fields l) ≡ length (fields m) = count l ∙ ap arity (s.0 ∙ sym i) ∙ sym (count m) in
      some (nil_from_length more (omega arith))

  pub whole_line : (m : Line) (more : List (List ℕ)) → initial m ≡ k → rest ≡ fields m ++ more → more ≡ [] → written m ≡ bs
  whole_line m more i f none =
      ap spaced ((λ j. (i j ∷ []) ∷ sym (f ∙ ap (λ z. fields m ++ z) none ∙ append-nil (fields m)) j) ∙ sym cut) ∙ spaced_splits bs

  -- the line stands where no word is left behind its form
  pub ended : (m : Line) (more : List (List ℕ)) (done : Bool) (r : Option Line) → Proper m → initial m ≡ k → rest ≡ fields m ++ more → Decides done (more ≡ []) → r ≡ then_some done m → MatchOption r ((l : Line) → Proper l → written l ≡ bs → ⊥) (λ l. Proper l × (written l ≡ bs))
  ended m more true r p i f d t = rw t (p, whole_line m more i f (d.0 refl))
  ended m more false r p i f d t = rw t (no_end m more i f (not_from_Decides _ d refl))
