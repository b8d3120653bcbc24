-- A tree with a shelf and a server's number as a state of the rules, and what a tree is opened with.
use Rattle.std.specs.Prelude.{ℕ}
use Rattle.classes.specs.Tables.{shape_of, weight_of}
use Rattle.classes.specs.declared.draft.Draft.{Draft}
use Rattle.rules.specs.Kind.{Kind}
use Rattle.rules.specs.State.{State, Opening}
use Rattle.shelf.specs.Lanes.{lanes, room}
use Rattle.shelf.specs.declared.shelf.Shelf.{Shelf}
use Rattle.tags.specs.declared.TagStore.{Ghosts as TagStore}
use Rattle.tree.specs.States.{state}
use Rattle.tree.specs.declared.tree.Tree.{Tree}

module _ {T I : Type 0} {H : TagStore T} {K : Kind I} where
  -- the state of a tree with a shelf and a server that has done so much work
  abbrev pub state_of : Tree T I H → Shelf I K → ℕ → State I
  state_of t s work =
      state t.house (shape_of t.queue.table) (weight_of t.queue.table) t.queue.loads t.phase t.meter.0 t.turns (room s) (lanes s) work

-- what the tree of a draft is opened with, beside a shelf of so many places and a server that has done so much work
abbrev pub opening : Draft → ℕ → ℕ → Opening
opening d places work = record { house = d.house; shape = shape_of d.table; weight = weight_of d.table; places = places; work = work }
