-- The latest part, and which lines may follow.
use Rattle.std.proofs.Common.{◌≡◌, ℕ, ◌<◌, ◌≤◌, Bool, true, false, not, ◌&&◌, ◌||◌, eqb, ltb, List, [], ◌∷◌, ◌++◌, refl, arith}
use Rattle.std.specs.List.{AllByRecursion}
use Rattle.std.proofs.ByRecursion.{All-weaker, All-push}
use Rattle.std.proofs.lemmas.Bool.Decides.{nat_tests}
use Rattle.text.specs.declared.line.Line.{Line}
use Rattle.trace.specs.declared.part.Part.{Part}
use Rattle.trace.specs.declared.part.Part.TheVariants.{Classes}
use Rattle.trace.specs.Parts.{part, place, may_follow}
use Rattle.trace.specs.Traces.{After}

-- the test of `may_follow` on places
may : ℕ → ℕ → Bool
may p q = ltb q p || (eqb q p && not (eqb p 1))

-- what may follow a place may follow each before it, and is not before it
climbs : (p q r : ℕ) → may p q ≡ true → r ≤ q → may p r ≡ true
unfolding may
climbs p q r h low = grind (arith, nat_tests)

rises : (p q r : ℕ) → may p q ≡ true → r ≤ q → r ≤ p
unfolding may
rises p q r h low = grind (arith, nat_tests)

-- what may not follow a place may follow earlier ones only, so that place is not the first
falls : (p q r : ℕ) → may p q ≡ false → may p r ≡ true → r < q
unfolding may
falls p q r h m = grind (arith, nat_tests)

above : (p q : ℕ) → may p q ≡ false → 0 < q
unfolding may
above p q h = grind (arith, nat_tests)

all_last : (P : Line → Type 0) (ls : List Line) (l : Line) → AllByRecursion P (ls ++ l ∷ []) → P l
all_last P [] l h = h.0
all_last P (m ∷ ls) l h = all_last P ls l h.1

-- p is the part of the last of the lines, and none is of a later one
pub record Ordered (p : Part) (ls : List Line) : Type 0 where
  pub top : AllByRecursion (λ m. place (part m) ≤ place p) ls
  pub reached : AllByRecursion (λ m. place (part m) < place p) ls → place p ≡ 0

pub ordered_none : Ordered Classes []
ordered_none = record { top = tt; reached = λ _. refl }

module _ (p : Part) (ls : List Line) (old : Ordered p ls) (l : Line) where
  -- a line that may follow the latest may follow all
  pub next : may_follow (part l) p ≡ true → AllByRecursion (After l) ls
  unfolding may
  next h = All-weaker (λ m. place (part m) ≤ place p) (After l) (λ m low. climbs (place (part l)) (place p) (place (part m)) h low) ls old.top

  pub ordered_more : may_follow (part l) p ≡ true → Ordered (part l) (ls ++ l ∷ [])
  unfolding may
  ordered_more h = record {
    top = All-push (λ m. place (part m) ≤ place (part l)) ls l (All-weaker (λ m. place (part m) ≤ place p) (λ m. place (part m) ≤ place (part l)) (λ m low. rises (place (part l)) (place p) (place (part m)) h low) ls old.top) (omega arith);
    reached = λ all. absurd (let last = all_last (λ m. place (part m) < place (part l)) ls l all in omega arith);
  }

  -- any other may not
  pub late : may_follow (part l) p ≡ false → AllByRecursion (After l) ls → ⊥
  unfolding may
  late h after =
      let first : place p ≡ 0 = old.reached (All-weaker (After l) (λ m. place (part m) < place p) (λ m a. falls (place (part l)) (place p) (place (part m)) h a) ls after) in
      omega (arith, above (place (part l)) (place p) h)
