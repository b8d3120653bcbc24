-- A player that has played some events.
use Rattle.std.specs.Prelude.{◌≡◌, ℕ, List, [], ◌∷◌, ◌++◌, Some, None, Option, Result}
use Rattle.classes.specs.declared.table.ClassTable.{ClassTable}
use Rattle.classes.specs.Tables.{shape_of}
use Rattle.links.specs.declared.server.Server.{Ghosts as Server}
use Rattle.listing.specs.declared.line.Line.TheVariants.{Event as event}
use Rattle.base.specs.declared.refusal.Refusal.{Refusal}
use Rattle.listing.specs.declared.line.Outcome.{Outcome}
use Rattle.listing.specs.Lines.{ended}
use Rattle.listing.specs.Listings.{Holds}
use Rattle.listing.specs.declared.listing.Listing.{Listing}
use Rattle.rules.specs.Kind.{Kind}
use Rattle.rules.specs.State.{State, Opening, Valid}
use Rattle.rules.specs.Rules.{Answer, Step}
use Rattle.rules.specs.History.{Entry, entry, Service, turn_after, charges}
use Rattle.tags.specs.declared.TagStore.{Ghosts as TagStore}
use Rattle.text.specs.declared.line.Event.{Event}
use Rattle.tree.specs.Answers.{grant_of}
use Rattle.tree.specs.Trees.{state_of}
use Rattle.play.specs.declared.player.Player.{Player}
use Rattle.play.specs.declared.player.Turn.{Turn}
use Rattle.play.specs.Calls.{call_of}
use Rattle.play.specs.Charges.{charged_at}
use Rattle.play.specs.Lines.{letter}
use Rattle.play.specs.Listings.{Ends}
use Rattle.play.specs.Plays.{Plays}

-- the turn that is held is the one that is open
abbrev pub HeldTurn : Option Service → Option Turn → Type 0
HeldTurn None None = Unit {0}
HeldTurn None (Some u) = ⊥
HeldTurn (Some v) None = ⊥
HeldTurn (Some v) (Some u) = (v.grant ≡ grant_of u.grant) × (v.leaf ≡ u.class)

module _ {T I S : Type 0} {H : TagStore T} {K : Kind I} (V : Server S) where
  -- the state of its tree, its shelf and its link
  abbrev pub state : Player T I S H K → State I
  state p = state_of p.tree p.shelf (V.work p.link)

module _ {T I S : Type 0} {H : TagStore T} (K : Kind I) (V : Server S) (new : ℕ → I) where
  -- the player has played the events from the opening o on: they made the history, and the bytes are their lines
  pub record Follows (t : ClassTable) (o : Opening) (first : S) (es : List Event) (h : List (Entry I)) (bs : List ℕ) (p : Player T I S H K) : Type 0 where
    pub valid : Valid o
    pub table : p.tree.queue.table ≡ t
    pub plays : Plays K V new t o first es h (state V p) p.link bs
    pub turn : HeldTurn (turn_after h) p.held
    pub charged : (k : ℕ) → charged_at p.charges k ≡ charges (shape_of t) k h

  -- whatever was played before, the event is played behind it as a call of the rules, with that outcome
  abbrev pub PlaysOn : Player T I S H K → Event → Result Outcome Refusal → Player T I S H K → Type 0
  PlaysOn p e r q = (t : ClassTable) (o : Opening) (first : S) (es : List Event) (h : List (Entry I)) (bs : List ℕ) → Follows t o first es h bs p →
      (a : Answer) × Step K (state V p) (call_of new t h e) a (state V q) × Follows t o first (es ++ e ∷ []) (entry (call_of new t h e) a ∷ h) (bs ++ ended (event (letter e) r)) q

  -- all events are played from the opening on, and their lines written
  abbrev pub PlaysAll : Player T I S H K → Listing → List Event → Player T I S H K → Listing → Type 0
  PlaysAll p l es q m = (t : ClassTable) (o : Opening) (first : S) → Follows t o first [] [] [] p → Holds l [] →
      (h : List (Entry I)) × ((bs : List ℕ) × Follows t o first es h bs q × Holds m bs)

  -- after the events and the giving up of a turn that was open, no turn is held
  pub record Rests (t : ClassTable) (o : Opening) (first : S) (es : List Event) (h : List (Entry I)) (bs : List ℕ) (p : Player T I S H K) : Type 0 where
    pub valid : Valid o
    pub table : p.tree.queue.table ≡ t
    pub ends : Ends K V new t o first es h (state V p) p.link bs
    pub free : p.held ≡ None
    pub charged : (k : ℕ) → charged_at p.charges k ≡ charges (shape_of t) k h

  -- an open turn is given up, and its line written
  abbrev pub Finishes : Player T I S H K → Listing → Player T I S H K → Listing → Type 0
  Finishes p l q m = (t : ClassTable) (o : Opening) (first : S) (es : List Event) (h : List (Entry I)) (bs : List ℕ) → Follows t o first es h bs p → Holds l bs →
      (h' : List (Entry I)) × ((bs' : List ℕ) × Rests t o first es h' bs' q × Holds m bs')
