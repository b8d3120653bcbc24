-- Whole turns: a grant that closes its turn, and what a turn leaves.
use Rattle.std.specs.Prelude.{◌≡◌, ℕ, ◌+◌, None}
use Rattle.rules.specs.Kind.{Kind}
use Rattle.rules.specs.Ready.{Ready}
use Rattle.rules.specs.Rules.{give_up}
use Rattle.rules.specs.State.{State, open_turn}
use Rattle.shelf.specs.declared.shelf.Shelf.{Shelf}
use Rattle.tags.specs.declared.TagStore.{Ghosts as TagStore}
use Rattle.tree.specs.Answers.{grant_of}
use Rattle.tree.specs.Trees.{state_of}
use Rattle.tree.specs.declared.tree.Grant.{Grant}
use Rattle.tree.specs.declared.tree.Tree.{Tree}

-- the grant is the open turn's and the shelf is the tree's, so that the turn can be given up
abbrev pub Holds : {T I : Type 0} {H : TagStore T} (K : Kind I) → Tree T I H → Shelf I K → Grant → Type 0
Holds K t shelf g = Ready K (state_of t shelf 0) (give_up (grant_of g))

-- a turn that was begun at s is open at s', and the server's work since then is its work
pub record Serves {I : Type 0} (s s' : State I) : Type 0 where
  pub meter : s'.meter ≡ s.meter
  pub turns : s'.turns ≡ s.turns + 1
  pub work : s'.work ≡ s.work + (open_turn s').done

-- what is between the tree t with work w and the tree t' with work w' leaves the grant's turn open, and its work is the server's
abbrev pub Keeps : {T I : Type 0} {H : TagStore T} → Kind I → Grant → Tree T I H → ℕ → Tree T I H → ℕ → Type 0
Keeps {I = I} K g t w t' w' =
    (sh : Shelf I K) → Ready K (state_of t sh w) (give_up (grant_of g)) →
    Ready K (state_of t' sh w') (give_up (grant_of g)) × ((b : State I) → Serves b (state_of t sh w) → Serves b (state_of t' sh w'))

-- the open turn is closed: the tree is free, and the work of the turn is charged
pub record Closed {I : Type 0} (s : State I) (charge : ℕ) (s' : State I) : Type 0 where
  pub free : s'.phase ≡ None
  pub charged : charge ≡ (open_turn s).done
  pub meter : s'.meter ≡ s.meter + charge
  pub turns : s'.turns ≡ s.turns

-- one whole turn: it is the next one, it is closed, and what the server did in it is charged
pub record Served {I : Type 0} (s : State I) (charge : ℕ) (s' : State I) : Type 0 where
  pub free : s'.phase ≡ None
  pub turns : s'.turns ≡ s.turns + 1
  pub meter : s'.meter ≡ s.meter + charge
  pub work : s'.work ≡ s.work + charge
