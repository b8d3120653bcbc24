-- What holds of each element of a list, with one more and with one less. Assumes nothing.
use Rattle.std.proofs.Common.{ℕ, zero, suc, List, [], ◌∷◌, insert, remove}
use Rattle.std.specs.List.{All}
use Rattle.std.proofs.lemmas.List.Elements.{All-nil, All-cons, All-head, All-tail}

module _ {X : Type 0} (P : X → Type 0) where
  pub each_more : (xs : List X) (p : ℕ) (y : X) → All P xs → P y → All P (insert xs p y)
  each_more xs zero y all new = All-cons P y xs new all
  each_more [] (suc p) y all new = All-cons P y [] new all
  each_more (x ∷ xs) (suc p) y all new = All-cons P x (insert xs p y) (All-head P x xs all) (each_more xs p y (All-tail P x xs all) new)

  -- without the one that was put in at p
  pub each_less : (xs : List X) (p : ℕ) (y : X) → All P (insert xs p y) → All P xs
  each_less xs zero y all = All-tail P y xs all
  each_less [] (suc p) y all = All-nil P
  each_less (x ∷ xs) (suc p) y all = All-cons P x xs (All-head P x (insert xs p y) all) (each_less xs p y (All-tail P x (insert xs p y) all))

  -- without the one at p
  pub each_left : (xs : List X) (p : ℕ) → All P xs → All P (remove xs p)
  each_left [] zero all = All-nil P
  each_left [] (suc p) all = All-nil P
  each_left (x ∷ xs) zero all = All-tail P x xs all
  each_left (x ∷ xs) (suc p) all = All-cons P x (remove xs p) (All-head P x xs all) (each_left xs p (All-tail P x xs all))
