-- The items stored and the free places come to all places. Assumes nothing.
use Rattle.std.proofs.Common.{◌≡◌, ℕ, zero, suc, ◌+◌, ◌<◌, List, [], ◌∷◌, length, sum_by, sym, refl, ap, ◌∙◌, ap₂, arith}
use Rattle.std.proofs.lemmas.List.Sums.{sum_by-cons}
use Rattle.items.specs.declared.Item.{Ghosts}
use Rattle.shelf.specs.declared.table.Chain.{Chain}
use Rattle.shelf.specs.Chains.{row}
use Rattle.shelf.specs.Lanes.{lanes, room, free, sum_below, stored}
use Rattle.shelf.specs.declared.shelf.Shelf.{Shelf}
use Rattle.shelf.proofs.Items.{lane_length}
use Rattle.shelf.proofs.Lines.{line_in}
use Rattle.shelf.proofs.Walks.{length_walk}

same : (f g : ℕ → ℕ) (n : ℕ) → ((i : ℕ) → i < n → f i ≡ g i) → sum_below f n ≡ sum_below g n
same f g zero e = refl
same f g (suc n) e = ap₂ (λ a b. a + b) (e n (omega arith)) (same f g n (λ i l. e i (omega arith)))

from_front : (f : ℕ → ℕ) (n : ℕ) → sum_below f (suc n) ≡ f 0 + sum_below (λ i. f (suc i)) n
from_front f zero = refl
from_front f (suc n) = let e = from_front f n in omega arith

listed : (cs : List Chain) → sum_by (λ c. c.len) cs ≡ sum_below (λ i. (row cs i).len) (length cs)
listed [] = refl
listed (c ∷ cs) =
    let e = sum_by-cons (λ d. d.len) c cs in
    let f = from_front (λ i. (row (c ∷ cs) i).len) (length cs) in
    let g = listed cs in
    omega arith

-- with the 64 lanes as a number n, so that no sum of 64 terms is written out
pub stored_below : {I : Type 0} {K : Ghosts I} (s : Shelf I K) (n : ℕ) → n ≡ 64 → sum_below (λ j. length (lanes s j)) n + free s ≡ room s
stored_below s n is =
    let t = s.table in
    let lens : sum_below (λ j. length (lanes s j)) n ≡ sum_below (λ j. (row t.chains j).len) n = same _ _ n (λ j l.
    let m : j < 64 = omega arith in
    lane_length s.places.now t s.fits j ∙ ap length (line_in t j m) ∙ length_walk t.next _ _) in
    let more : suc n ≡ length t.chains = omega arith in
    let all : (row t.chains n).len + sum_below (λ j. (row t.chains j).len) n ≡ room s = ap (sum_below (λ j. (row t.chains j).len)) more ∙ sym (listed t.chains) ∙ t.all.1 in
    let rest = length_walk t.next (row t.chains 64).len (row t.chains 64).head in
    let last : (row t.chains n).len ≡ (row t.chains 64).len = ap (λ k. (row t.chains k).len) is in
    omega arith

pub stored_free : {I : Type 0} {K : Ghosts I} (s : Shelf I K) → stored s + free s ≡ room s
unfolding stored
stored_free s = stored_below s 64 refl
