-- A text cut at its line ends.
use Rattle.std.proofs.Common.{◌≡◌, ℕ, ◌+◌, ◌<◌, ◌≤◌, List, [], ◌∷◌, ◌++◌, length, Ok, Err, Result, sym, refl, ap, ◌∙◌, subst, arith, length-append, rules}
use Rattle.base.specs.declared.refusal.Refusal.{Refusal}
use Rattle.std.specs.List.{AllByRecursion}
use Rattle.std.proofs.ByRecursion.{All-append}
use Rattle.text.specs.declared.kind.Kind.{Kind}
use Rattle.text.specs.declared.kind.Kind.TheVariants.{Quantum, Block}
use Rattle.text.specs.declared.line.Line.{Line}
use Rattle.text.specs.Words.{Free}
use Rattle.text.specs.Lines.{initial, fields, spaced, written, Proper, Reads}
use Rattle.text.specs.Kinds.{title, Untitled}
use Rattle.text.specs.Texts.{Faulty, Gives}
use Rattle.text.proofs.Forms.{heads, tails, words_free, initial_free}

-- the first b cuts a list in one way only
pub cut_once : (b : ℕ) (xs ys us vs : List ℕ) → Free b xs → Free b ys → xs ++ b ∷ us ≡ ys ++ b ∷ vs → (xs ≡ ys) × (us ≡ vs)
cut_once b [] [] us vs f g e = (refl, tails _ _ _ _ e)
cut_once b [] (y ∷ ys) us vs f g e = absurd (g.0 (sym (heads _ _ _ _ e)))
cut_once b (x ∷ xs) [] us vs f g e = absurd (f.0 (heads _ _ _ _ e))
cut_once b (x ∷ xs) (y ∷ ys) us vs f g e =
    let rest = cut_once b xs ys us vs f.1 g.1 (tails _ _ _ _ e) in
    ((λ i. heads _ _ _ _ e i ∷ rest.0 i), rest.1)

-- what holds a b is not free of it
not_free : (b : ℕ) (xs us : List ℕ) → Free b (xs ++ b ∷ us) → ⊥
not_free b [] us f = f.0 refl
not_free b (x ∷ xs) us f = not_free b xs us f.1

pub shorter : (rest bytes more : List ℕ) → rest ≡ bytes ++ 10 ∷ more → length more + 1 ≤ length rest
shorter rest bytes more cut = omega (arith, ap length cut ∙ length-append bytes (10 ∷ more))

-- no line holds a line end
spaced_free : (ws : List (List ℕ)) → AllByRecursion (Free 10) ws → Free 10 (spaced ws)
spaced_free [] h = tt
spaced_free (w ∷ []) h = h.0
spaced_free (w ∷ v ∷ ws) h = All-append _ w (32 ∷ spaced (v ∷ ws)) h.0 ((λ e. omega arith), spaced_free (v ∷ ws) h.1)

pub written_free : (l : Line) → Proper l → Free 10 (written l)
written_free l p = spaced_free ((initial l ∷ []) ∷ fields l) (initial_free 10 (omega arith) l, words_free 10 (omega arith) l p)

pub title_free : (k : Kind) → Free 10 (title k)
title_free Quantum = search rules
title_free Block = search rules

-- bytes without a line end begin with no line
pub no_end : (bs : List ℕ) → 0 < length bs → Free 10 bs → Faulty bs
no_end bs some free = record { some = some; none = λ l more p e. not_free 10 (written l) more (subst (Free 10) (sym e) free) }

-- bytes up to the first line end that are no line
module _ (bs bytes more : List ℕ) (free : Free 10 bytes) (cut : bs ≡ bytes ++ 10 ∷ more) where
  no_line : ((l : Line) → Proper l → written l ≡ bytes → ⊥) → Faulty bs
  no_line none = record { some = omega (arith, shorter bs bytes more cut); none = λ l us p e. none l p (cut_once 10 _ _ _ _ (written_free l p) free (e ∙ cut)).0 }

  pub no_title : ((k : Kind) → title k ≡ bytes → ⊥) → Untitled bs
  no_title none k us e = none k (cut_once 10 _ _ _ _ (title_free k) free (e ∙ cut)).0

  -- so a text begins with what its first bytes up to a line end are
  pub one_line : (r : Result Line Refusal) → Reads bytes r → Gives bs more r
  one_line (Ok l) h = (h.0, cut ∙ ap (λ z. z ++ 10 ∷ more) (sym h.1))
  one_line (Err e) h = (h.0, no_line h.1)
