-- The draws that one item takes on a server.
use Rattle.std.specs.Prelude.{◌≡◌, ℕ, ◌+◌, ◌-◌, ◌<◌, ◌≤◌, ◌⊎◌, List, [], ◌∷◌, length, vec_items}
use Rattle.stalling.specs.declared.draw.Draw.{Draw}
use Rattle.stalling.specs.declared.play.Run.{Run}
use Rattle.stalling.specs.Draws.{done_by, idle_of}

-- while `left` units are to do, each draw asks the server for all of them; they are numbered from k on, and take the server from s to t
abbrev pub Plays : {S : Type 0} → (S → ℕ → ℕ → S → Type 0) → S → ℕ → ℕ → List Draw → S → Type 0
Plays draws s k left [] t = s ≡ t
Plays {S} draws s k left (x ∷ xs) t =
    (0 < left) × (x.number ≡ k) × (x.wanted ≡ left) ×
    ((u : S) × draws s left x.done u × Plays draws u (k + 1) (left - x.done) xs t)

-- the draws end with the item, or at the most that an item may take
abbrev pub Stops : ℕ → List Draw → Type 0
Stops cost xs = (length xs ≤ 100000) × ((cost - done_by xs ≡ 0) ⊎ (length xs ≡ 100000))

-- the run of an item of that cost: its draws, the idle ones among them, and what is left of the item
pub record Played {S : Type 0} (draws : S → ℕ → ℕ → S → Type 0) (s : S) (cost : ℕ) (r : Run) (t : S) : Type 0 where
  pub plays : Plays draws s 0 cost (vec_items r.draws) t
  pub stops : Stops cost (vec_items r.draws)
  pub idled : r.idle ≡ idle_of (vec_items r.draws)
  pub rest : r.left ≡ cost - done_by (vec_items r.draws)
