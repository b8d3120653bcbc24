-- Whom a dispatch serves, as a relation. Assumes nothing.
use Rattle.std.specs.Prelude.{◌≡◌, ℕ, ◌<◌, ◌≤◌, true, List}
use Rattle.rules.specs.Shape.{under, child, leaf}
use Rattle.rules.specs.Kind.{Kind}
use Rattle.rules.specs.State.{Opening, Valid, State, backlogged, picked}
use Rattle.rules.specs.History.{Entry, Run}

module _ {I : Type 0} (s : State I) where
  -- of the node's backlogged children below number n, b has the least start tag, and the lowest number among those
  pub record Best (node n b : ℕ) : Type 0 where
    pub below : b < n
    pub kid : child s.shape node b ≡ true
    pub busy : backlogged s b ≡ true
    pub least : (k : ℕ) → k < n → child s.shape node k ≡ true → backlogged s k ≡ true → s.tags.start b ≤ s.tags.start k
    pub lowest : (k : ℕ) → k < n → child s.shape node k ≡ true → backlogged s k ≡ true → s.tags.start k ≤ s.tags.start b → b ≤ k

  -- c is a leaf, and each class on the path to it but the root is the best of its parent's children
  pub record Chosen (c : ℕ) : Type 0 where
    pub ends : leaf s.shape c ≡ true
    pub known : c < s.shape.count
    pub best : (k : ℕ) → 0 < k → under s.shape k c ≡ true → Best (s.shape.parent k) s.shape.count k

-- wherever a history leads and finds a backlog, the leaf that a dispatch serves is the one that is so chosen
abbrev pub Picks : {I : Type 0} → Kind I → Type 0
Picks {I} K = (o : Opening) → Valid o → (h : List (Entry I)) (s : State I) → Run K o h s → backlogged s 0 ≡ true →
    Chosen s (picked s) × ((c : ℕ) → Chosen s c → c ≡ picked s)
