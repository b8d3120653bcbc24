-- What each event asks of the tree.
use Rattle.std.specs.Prelude.{ℕ, List, Some, None, Option}
use Rattle.classes.specs.declared.table.ClassTable.{ClassTable}
use Rattle.classes.specs.Tables.{named}
use Rattle.rules.specs.Rules.{Grant, Call, submit, dispatch, pulse, end_turn, give_up}
use Rattle.rules.specs.History.{Entry, grant_after}
use Rattle.text.specs.declared.line.Event.{Event}
use Rattle.text.specs.declared.line.Event.TheVariants.{Submit, Dispatch, Pulse, End, GiveUp}
use Rattle.trace.specs.Makings.{numbered}

-- the grant of the open turn; where none is open, that of turn 0, which no dispatch answers
abbrev pub open_grant : Option Grant → Grant
open_grant None = record { house = 0; turn = 0 }
open_grant (Some g) = g

-- the call of an event that comes after h, on a tree with the classes t. A name that no class has stands for 64, a number that no class has;
-- new is the item of a cost
abbrev pub call_of : {I : Type 0} → (ℕ → I) → ClassTable → List (Entry I) → Event → Call I
call_of new t h (Submit name cost) = submit (numbered (named t name.now)) (new cost)
call_of new t h Dispatch = dispatch
call_of new t h Pulse = pulse (open_grant (grant_after h))
call_of new t h End = end_turn (open_grant (grant_after h))
call_of new t h GiveUp = give_up (open_grant (grant_after h))
