-- Whether a grant is the open turn's, and pulses. Assumes nothing.
use Rattle.std.proofs.Common.{◌≡◌, ℕ, Bool, true, ◌&&◌, eqb, sym, refl}
use Rattle.std.proofs.lemmas.Bool.{and_parts, eqb-true}
use Rattle.classes.specs.Tables.{shape_of, weight_of}
use Rattle.rules.specs.Kind.{Kind}
use Rattle.rules.specs.State.{State}
use Rattle.rules.specs.Rules.{Grant}
use Rattle.rules.specs.Ready.{Names}
use Rattle.shelf.specs.Lanes.{lanes, room}
use Rattle.shelf.specs.declared.shelf.Shelf.{Shelf}
use Rattle.tags.specs.declared.TagStore.{Ghosts as TagStore}
use Rattle.tree.specs.States.{state}
use Rattle.tree.specs.declared.phase.Phase.{Phase}
use Rattle.tree.specs.declared.phase.Phase.TheVariants.{Open}
use Rattle.tree.specs.declared.tree.Tree.{Tree}

module _ {T I : Type 0} {H : TagStore T} (K : Kind I) (t : Tree T I H) (g : Grant) where
  -- the house and the turn number are the tree's
  abbrev pub own : Bool
  own = eqb g.house t.house && eqb g.turn t.turns

  -- the state with such a phase
  abbrev pub at : Shelf I K → ℕ → Phase → State I
  at sh w p = state t.house (shape_of t.queue.table) (weight_of t.queue.table) t.queue.loads p t.meter.0 t.turns (room sh) (lanes sh) w

  module _ (leaf cost done : ℕ) (opened : t.phase ≡ Open leaf cost done) (is-own : true ≡ own) (sh : Shelf I K) (w : ℕ) where
    -- the grant is the open turn's
    pub names : Names K (at sh w (Open leaf cost done)) g
    names = let (house, number) = and_parts _ _ (sym is-own) in record { opened = refl; house = eqb-true _ _ house; turn = eqb-true _ _ number }
