-- The five incoming calls and what they are answered, as the rules have them.
use Rattle.std.specs.Prelude.{◌≡◌, ℕ, ◌+◌, false, Some, None, Ok, Err, Option, Result}
use Rattle.base.specs.declared.refusal.Refusal.{Refusal}
use Rattle.rules.specs.Rules.{submit, dispatch, pulse, end_turn, give_up, refused, accepted, worked, closed}
use Rattle.rules.specs.Rules as rules
use Rattle.tags.specs.declared.TagStore.{Ghosts as TagStore}
use Rattle.tree.specs.Answers.{grant_of, granted_by}
use Rattle.tree.specs.Draws.{Drew}
use Rattle.tree.specs.declared.phase.Phase.{Phase}
use Rattle.tree.specs.declared.tree.Grant.{Grant}
use Rattle.tree.specs.declared.tree.Tree.{Tree}
use Rattle.tree.specs.declared.tree.call.Answer.{Answer}
use Rattle.tree.specs.declared.tree.call.Answer.TheVariants.{Accepted, Granted, Worked, Closed}
use Rattle.tree.specs.declared.tree.call.Call.{Call}
use Rattle.tree.specs.declared.tree.call.Call.TheVariants.{Submit, Dispatch, Pulse, End, GiveUp}

module _ {I : Type 0} where
  -- a call
  abbrev pub call_of : Call I → rules.Call I
  call_of (Submit class item) = submit class item
  call_of Dispatch = dispatch
  call_of (Pulse g) = pulse (grant_of g.now)
  call_of (End g) = end_turn (grant_of g)
  call_of (GiveUp g) = give_up (grant_of g)

  -- the grant that it takes
  abbrev pub taken : Call I → Option Grant
  taken (Submit class item) = None
  taken Dispatch = None
  taken (Pulse g) = None
  taken (End g) = Some g
  taken (GiveUp g) = Some g

-- an answer
abbrev pub answered : Answer → rules.Answer
answered Accepted = accepted
answered (Granted d) = granted_by d
answered (Worked d) = worked d.0
answered (Closed d) = closed d.0

-- an answer or a refusal
abbrev pub answer_of : Result Answer (Refusal × Option Grant) → rules.Answer
answer_of (Ok a) = answered a
answer_of (Err e) = refused e.0

-- a grant that is answered is not spent, and has the tree's house number and the number of the new turn
abbrev pub Unspent : {T I : Type 0} {H : TagStore T} → Tree T I H → Result Answer (Refusal × Option Grant) → Type 0
Unspent t (Ok a) = elim a [ Accepted ↦ Unit {0} | Granted d ↦ d.grant ≡ record { house = t.house; turn = t.turns + 1; spent = false } | Worked d ↦ Unit {0} | Closed d ↦ Unit {0} ]
Unspent t (Err e) = Unit {0}

-- only a pulse draws on the server
abbrev pub Draws : {S I : Type 0} → (S → ℕ → ℕ → S → Type 0) → Phase → Call I → Result Answer (Refusal × Option Grant) → S → S → Type 0
Draws draws p (Submit class item) r s s' = s' ≡ s
Draws draws p Dispatch r s s' = s' ≡ s
Draws draws p (Pulse g) (Ok a) s s' = elim a [ Accepted ↦ ⊥ | Granted d ↦ ⊥ | Worked d ↦ Drew draws p (Ok d) s s' | Closed d ↦ ⊥ ]
Draws draws p (Pulse g) (Err e) s s' = s' ≡ s
Draws draws p (End g) r s s' = s' ≡ s
Draws draws p (GiveUp g) r s s' = s' ≡ s
