-- The fields of a tree, a shelf and a server as a state of the rules.
use Rattle.std.specs.Prelude.{ℕ, List}
use Rattle.rules.specs.Shape.{Shape}
use Rattle.rules.specs.State.{State, Tags}
use Rattle.tree.specs.Counts.{queued}
use Rattle.tree.specs.Loads.{load}
use Rattle.tree.specs.Turns.{turn}
use Rattle.tree.specs.declared.load.Load.{Load}
use Rattle.tree.specs.declared.phase.Phase.{Phase}

-- the tags of all classes
abbrev pub tags : List Load → Tags
tags ls = record { start = λ k. (load ls k).start.0; finish = λ k. (load ls k).finish.0; virtual = λ k. (load ls k).vtime.0 }

-- the state that such fields make
abbrev pub state : {I : Type 0} → ℕ → Shape → (ℕ → ℕ) → List Load → Phase → ℕ → ℕ → ℕ → (ℕ → List I) → ℕ → State I
state house t w ls phase meter turns places lane work = record {
  house = house;
  shape = t;
  weight = w;
  places = places;
  tags = tags ls;
  queued = queued t ls;
  phase = turn phase;
  meter = meter;
  turns = turns;
  lane = lane;
  work = work;
}
