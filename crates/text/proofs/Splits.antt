-- Bytes cut at single spaces, and put together again.
use Rattle.std.proofs.Common.{◌≡◌, ℕ, Bool, true, false, not, Option, Some, None, is_some, Bor, Decides, List, [], ◌∷◌, ◌++◌, length, sym, refl, ap, ◌∙◌, ⊎_elim, arith, ◌==◌}
use Rattle.std.specs.List.{All, AllByRecursion}
use Rattle.std.proofs.ByRecursion.{All-get_or}
use Rattle.std.proofs.lemmas.Bool.{true≢false}
use Rattle.std.proofs.lemmas.Bool.Decides.{eqb_tells}
use Rattle.std.proofs.lemmas.List.Splits.{slice_split_none, slice_split_at, length-slice_split, join_with_byte-slice_split}
use Rattle.text.specs.Words.{Free}
use Rattle.text.specs.Lines.{spaced}
use Rattle.text.specs.Cursor.{splits, after}

fails : (bs : List ℕ) → Free 32 bs → All (λ b. (b == 32) ≡ false) bs
fails bs h k d low = ⊎_elim (λ p. absurd (All-get_or _ bs k d low h p.1)) (λ p. p.0) (eqb_tells _ 32)

pub splits_free : (bs : List ℕ) → Free 32 bs → splits bs ≡ bs ∷ []
splits_free bs h = slice_split_none (λ b. b == 32) bs (fails bs h)

pub splits_cut : (xs bs : List ℕ) → Free 32 xs → splits (xs ++ 32 ∷ bs) ≡ xs ∷ splits bs
splits_cut xs bs h = slice_split_at (λ b. b == 32) xs 32 bs (fails xs h) refl

pub splits_spaced : (w : List ℕ) (ws : List (List ℕ)) → AllByRecursion (Free 32) (w ∷ ws) → splits (spaced (w ∷ ws)) ≡ w ∷ ws
splits_spaced w [] h = splits_free w h.0
splits_spaced w (v ∷ ws) h = splits_cut w (spaced (v ∷ ws)) h.0 ∙ ap (λ l. w ∷ l) (splits_spaced v ws h.1)

pub spaced_splits : (bs : List ℕ) → spaced (splits bs) ≡ bs
spaced_splits bs = join_with_byte-slice_split 32 bs

-- bytes always hold a word, if an empty one
pub splits_some : (bs : List ℕ) → splits bs ≡ [] → ⊥
splits_some bs e = omega (arith, length-slice_split (λ b. b == 32) bs, ap length e)

-- whether no word is left is told by whether bytes are
pub done_told : (rest : Option (Bor (List ℕ))) (none : Bool) → is_some rest ≡ not none → Decides none (after rest ≡ [])
done_told None true s = (λ _. refl, λ _. refl)
done_told None false s = absurd (true≢false (sym s))
done_told (Some b) true s = absurd (true≢false s)
done_told (Some b) false s = (λ f. absurd (true≢false (sym f)), λ e. absurd (splits_some b.now e))
