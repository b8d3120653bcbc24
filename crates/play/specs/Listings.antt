-- The whole listing of a trace.
use Rattle.std.specs.Prelude.{◌≡◌, ℕ, zero, suc, true, List, [], ◌∷◌, ◌++◌, is_some, None, vec_items, codes, decimal}
use Rattle.classes.specs.declared.draft.Draft.{Draft}
use Rattle.classes.specs.declared.table.ClassTable.{ClassTable}
use Rattle.classes.specs.Tables.{class_count, shape_of, name_of}
use Rattle.links.specs.declared.server.Server.{Ghosts as Server}
use Rattle.rules.specs.Kind.{Kind}
use Rattle.rules.specs.Laws.{Kept}
use Rattle.rules.specs.State.{State, Opening}
use Rattle.rules.specs.History.{Entry, Run, turn_after, charges}
use Rattle.text.specs.declared.line.Event.{Event}
use Rattle.text.specs.declared.line.Event.TheVariants.{GiveUp}
use Rattle.tree.specs.Trees.{opening}
use Rattle.play.specs.Plays.{Plays}
use Rattle.items.specs.contracts.QuantumItem.TheImpl.{ghosts as QuantumItem}
use Rattle.items.specs.contracts.BlockItem.TheImpl.{ghosts as BlockItem}
use Rattle.links.specs.contracts.fixed.serve.FixedLinkServer.TheImpl.{ghosts as FixedLinkServer}
use Rattle.links.specs.Interrupts.{Interrupts}
use Rattle.links.specs.declared.fixed.FixedLink.{FixedLink}
use Rattle.links.specs.declared.interrupted.Interrupted.{Interrupted}
use Rattle.text.specs.declared.kind.Kind.TheVariants.{Quantum, Block}
use Rattle.trace.specs.declared.fault.Fault.{Fault}
use Rattle.trace.specs.declared.trace.Trace.{Trace}
use Rattle.trace.specs.Faults.{told}
use Rattle.trace.specs.Traces.{Accepted, Faulted}

-- an interrupted link over a fixed one
abbrev pub link : Server (Interrupted FixedLink)
link = record { work = λ x. FixedLinkServer.work x.below; draws = λ x n d y. Interrupts FixedLinkServer.draws x n d y }

-- `s NAME CHARGES` for each class below number n
abbrev pub sums : ClassTable → (ℕ → ℕ) → ℕ → List ℕ
sums t charged zero = []
sums t charged (suc n) = sums t charged n ++ ((codes "s " ++ (name_of t n ++ (codes " " ++ decimal (charged n)))) ++ 10 ∷ [])

module _ {I S : Type 0} (K : Kind I) (V : Server S) (new : ℕ → I) (t : ClassTable) (o : Opening) (first : S) where
  -- the events are played, and a turn that is open after them is given up
  pub data Ends (es : List Event) : List (Entry I) → State I → S → List ℕ → Type 0 where
    at_rest : {h : List (Entry I)} {s : State I} {x : S} {bs : List ℕ} → Plays K V new t o first es h s x bs → turn_after h ≡ None → Ends es h s x bs
    given_up : {e : Entry I} {h : List (Entry I)} {s : State I} {x : S} {bs : List ℕ} → Plays K V new t o first (es ++ GiveUp ∷ []) (e ∷ h) s x bs → is_some (turn_after h) ≡ true → turn_after (e ∷ h) ≡ None → Ends es (e ∷ h) s x bs

-- the events of a trace, played on a tree of its draft with a shelf of so many places and on its link: the calls are a history of the rules,
-- which keeps the laws; the listing has the lines of the calls, and then what that history charges to each class
pub record Lists {I S : Type 0} (K : Kind I) (V : Server S) (new : ℕ → I) (places : ℕ) (d : Draft) (first : S) (es : List Event) (listing : List ℕ) : Type 0 where
  pub history : List (Entry I)
  pub state : State I
  pub server : S
  pub lines : List ℕ
  pub ends : Ends K V new d.table (opening d places (V.work first)) first es history state server lines
  pub run : Run K (opening d places (V.work first)) history state
  pub lawful : Kept K (opening d places (V.work first)) history state
  pub whole : listing ≡ lines ++ sums d.table (λ k. charges (shape_of d.table) k history) (class_count d.table)

-- what is printed for the bytes of a trace: the line of its first fault; or the listing of the trace that they write
pub data Prints (bs : List ℕ) : List ℕ → Type 0 where
  faulty : (f : Fault) → Faulted bs f → Prints bs (told f ++ 10 ∷ [])
  quanta : (t : Trace) (out : List ℕ) → Accepted bs t → t.kind ≡ Quantum → Lists QuantumItem link (λ n. record { task = 0; time = n }) 256 t.draft t.link (vec_items t.events) out → Prints bs out
  blocks : (t : Trace) (out : List ℕ) → Accepted bs t → t.kind ≡ Block → Lists BlockItem link (λ n. record { first = 0; length = n }) 256 t.draft t.link (vec_items t.events) out → Prints bs out
