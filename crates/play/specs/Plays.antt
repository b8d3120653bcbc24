-- How events are played: one call of the rules for each, on a server that is drawn on by pulses alone.
use Rattle.std.specs.Prelude.{◌≡◌, ℕ, List, [], ◌∷◌, ◌++◌, MatchBool, ◌==◌}
use Rattle.classes.specs.declared.table.ClassTable.{ClassTable}
use Rattle.links.specs.declared.server.Server.{Ghosts as Server}
use Rattle.rules.specs.Kind.{Kind}
use Rattle.rules.specs.State.{State, Opening, fresh, open_turn, to_do}
use Rattle.rules.specs.Rules.{Answer, refused, accepted, granted, worked, closed, Step}
use Rattle.rules.specs.History.{Entry, entry}
use Rattle.text.specs.declared.line.Event.{Event}
use Rattle.play.specs.Calls.{call_of}
use Rattle.play.specs.Lines.{line}

module _ {I S : Type 0} (V : Server S) where
  -- what an answered call did to the server x, in the state s: a pulse draws what is still to do, and does no draw where nothing is; nothing
  -- else touches the server
  abbrev pub Served : State I → Answer → S → S → Type 0
  Served s (worked d) x x' = MatchBool ((open_turn s).done == (open_turn s).cost) ((d ≡ 0) × (x' ≡ x)) (V.draws x (to_do s) d x')
  Served s (refused e) x x' = x' ≡ x
  Served s accepted x x' = x' ≡ x
  Served s (granted g k cost) x x' = x' ≡ x
  Served s (closed d) x x' = x' ≡ x

module _ {I S : Type 0} (K : Kind I) (V : Server S) (new : ℕ → I) (t : ClassTable) (o : Opening) (first : S) where
  -- the events, played in order from the opening o and the server first on, make the history (the newest call first), lead to the state and
  -- the server, and write the bytes
  pub data Plays : List Event → List (Entry I) → State I → S → List ℕ → Type 0 where
    begun : Plays [] [] (fresh o) first []
    played : {es : List Event} {h : List (Entry I)} {s : State I} {x : S} {bs : List ℕ} (e : Event) (a : Answer) (s' : State I) (x' : S) →
        Plays es h s x bs → Step K s (call_of new t h e) a s' → Served V s a x x' → s'.work ≡ V.work x' →
        Plays (es ++ e ∷ []) (entry (call_of new t h e) a ∷ h) s' x' (bs ++ line t s'.tags.start e a)
