-- A history of calls with their answers, the newest first, and what can be read off it alone. A moment lies before, between or after
-- calls: it is given by the calls so far. Assumes nothing.
use Rattle.std.specs.Prelude.{◌≡◌, ℕ, ◌+◌, max, Bool, true, false, cond, not, ◌&&◌, ◌⊎◌, List, [], ◌∷◌, ◌++◌, Some, None, Option, ◌==◌}
use Rattle.rules.specs.Shape.{Shape, any, under}
use Rattle.rules.specs.Kind.{Kind}
use Rattle.rules.specs.State.{Opening, fresh, State}
use Rattle.rules.specs.Rules.{Grant, Call, submit, dispatch, pulse, end_turn, give_up, Answer, refused, accepted, granted, worked, closed, Step}

-- a call with its answer
pub record Entry (I : Type 0) : Type 0 where
  pub call : Call I
  pub answer : Answer

-- the same, written short
abbrev pub entry : {I : Type 0} → Call I → Answer → Entry I
entry c a = record { call = c; answer = a }

module _ {I : Type 0} (K : Kind I) (o : Opening) where
  -- the histories of calls on a newly opened tree with an empty shelf, refused calls among them, and the state that each leads to
  pub data Run : List (Entry I) → State I → Type 0 where
    opened : Run [] (fresh o)
    made : {h : List (Entry I)} {s s' : State I} {e : Entry I} → Run h s → Step K s e.call e.answer s' → Run (e ∷ h) s'

-- an open turn as the history tells it: its grant, its leaf, and the work done in it
pub record Service : Type 0 where
  pub grant : Grant
  pub leaf : ℕ
  pub done : ℕ

-- the turn after d more units
abbrev pub done_more : ℕ → Option Service → Option Service
done_more d None = None
done_more d (Some u) = Some (record { grant = u.grant; leaf = u.leaf; done = u.done + d })

-- whether the turn serves class k
abbrev pub serves_by : Shape → ℕ → Option Service → Bool
serves_by t k None = false
serves_by t k (Some u) = under t k u.leaf

-- the work done in it
abbrev pub work_of : Option Service → ℕ
work_of None = 0
work_of (Some u) = u.done

-- its grant
abbrev pub grant_of : Option Service → Option Grant
grant_of None = None
grant_of (Some u) = Some u.grant

-- a grant counts one
abbrev pub counted : Option Grant → ℕ
counted None = 0
counted (Some g) = 1

module _ {I : Type 0} where
  -- the turn that is open after h
  abbrev pub turn_after : List (Entry I) → Option Service
  turn_after [] = None
  turn_after (e ∷ h) = elim e.answer [
    | refused e ↦ turn_after h
    | accepted ↦ turn_after h
    | granted g leaf cost ↦ Some (record { grant = g; leaf = leaf; done = 0 })
    | worked d ↦ done_more d (turn_after h)
    | closed d ↦ None
  ]

  -- whether it serves class k
  abbrev pub serves : Shape → ℕ → List (Entry I) → Bool
  serves t k h = serves_by t k (turn_after h)

  -- the work of the open turn
  abbrev pub open_work : List (Entry I) → ℕ
  open_work h = work_of (turn_after h)

  -- the grant that its dispatch answered
  abbrev pub grant_after : List (Entry I) → Option Grant
  grant_after h = grant_of (turn_after h)

  -- what one call, made after h, charges to class k: a closing charges its answer to the leaf that its turn served and to each class above
  abbrev pub charge : Shape → ℕ → Entry I → List (Entry I) → ℕ
  charge t k e h = elim e.answer [ refused e ↦ 0 | accepted ↦ 0 | granted g l c ↦ 0 | worked d ↦ 0 | closed d ↦ cond (serves t k h) d 0 ]

  -- what a whole history charges to class k
  abbrev pub charges : Shape → ℕ → List (Entry I) → ℕ
  charges t k [] = 0
  charges t k (e ∷ h) = charge t k e h + charges t k h

  -- what it is charged between two moments: by the calls of after, which follow on those of before
  abbrev pub between : Shape → ℕ → List (Entry I) → List (Entry I) → ℕ
  between t k [] before = 0
  between t k (e ∷ after) before = charge t k e (after ++ before) + between t k after before

  -- its largest single charge in a history, or 0
  abbrev pub largest : Shape → ℕ → List (Entry I) → ℕ
  largest t k [] = 0
  largest t k (e ∷ h) = max (charge t k e h) (largest t k h)

  -- the grant that a dispatch answers
  abbrev pub given : Entry I → Option Grant
  given e = elim e.answer [ refused e ↦ None | accepted ↦ None | granted g l c ↦ Some g | worked d ↦ None | closed d ↦ None ]

  -- how many grants were answered in h
  abbrev pub turns_given : List (Entry I) → ℕ
  turns_given [] = 0
  turns_given (e ∷ h) = turns_given h + counted (given e)

  -- the grant that a call names
  abbrev pub named : Call I → Option Grant
  named (submit c x) = None
  named dispatch = None
  named (pulse g) = Some g
  named (end_turn g) = Some g
  named (give_up g) = Some g

  -- the grant that an accepted call took
  abbrev pub taken : Entry I → Option Grant
  taken e = elim e.answer [ refused e ↦ None | accepted ↦ named e.call | granted g l c ↦ named e.call | worked d ↦ named e.call | closed d ↦ named e.call ]

  -- P holds of each call of the history, with the calls before it
  abbrev pub Always : (Entry I → List (Entry I) → Type 0) → List (Entry I) → Type 0
  Always P [] = Unit {0}
  Always P (e ∷ h) = P e h × Always P h

  -- P holds of some call
  abbrev pub Sometime : (Entry I → List (Entry I) → Type 0) → List (Entry I) → Type 0
  Sometime P [] = ⊥
  Sometime P (e ∷ h) = P e h ⊎ Sometime P h

-- an item in a leaf: as submitted or as its kind last left it, the cost it came with, the work of its ended turns
pub record Waiting (I : Type 0) : Type 0 where
  pub item : I
  pub cost : ℕ
  pub ended : ℕ

-- a list is empty
abbrev pub none : {A : Type 0} → List A → Bool
none [] = true
none (x ∷ xs) = false

module _ {I : Type 0} (K : Kind I) where
  -- the items of leaf l after an accepted call: a submission to l puts its item behind the others
  abbrev pub after_submission : ℕ → Call I → List (Waiting I) → List (Waiting I)
  after_submission l (submit c x) ws = cond (c == l) (ws ++ record { item = x; cost = K.costs x; ended = 0 } ∷ []) ws
  after_submission l dispatch ws = ws
  after_submission l (pulse g) ws = ws
  after_submission l (end_turn g) ws = ws
  after_submission l (give_up g) ws = ws

  -- the items after d units of the first are done in an ended turn: it leaves when all its cost is done
  abbrev pub after_ending : List (Waiting I) → ℕ → List (Waiting I)
  after_ending [] d = []
  after_ending (w ∷ ws) d = cond (w.ended + d == w.cost) ws (record { item = K.left w.item d; cost = w.cost; ended = w.ended + d } ∷ ws)

  -- the same at leaf l, if the turn served it
  abbrev pub ended_in : ℕ → Option Service → ℕ → List (Waiting I) → List (Waiting I)
  ended_in l None d ws = ws
  ended_in l (Some u) d ws = cond (u.leaf == l) (after_ending ws d) ws

  -- the items of leaf l after a closing: only an ending of a turn that served l changes them
  abbrev pub after_closing : ℕ → Call I → Option Service → ℕ → List (Waiting I) → List (Waiting I)
  after_closing l (end_turn g) u d ws = ended_in l u d ws
  after_closing l (submit c x) u d ws = ws
  after_closing l dispatch u d ws = ws
  after_closing l (pulse g) u d ws = ws
  after_closing l (give_up g) u d ws = ws

  -- the items that are in leaf l after h
  abbrev pub waiting : ℕ → List (Entry I) → List (Waiting I)
  waiting l [] = []
  waiting l (e ∷ h) = elim e.answer [
    | refused e ↦ waiting l h
    | accepted ↦ after_submission l e.call (waiting l h)
    | granted g k c ↦ waiting l h
    | worked d ↦ waiting l h
    | closed d ↦ after_closing l e.call (turn_after h) d (waiting l h)
  ]

  -- an item is in a leaf at or below k
  abbrev pub has_work : Shape → ℕ → List (Entry I) → Bool
  has_work t k h = any (λ l. under t k l && not (none (waiting l h))) t.count

  -- k has work at each moment from the end of before to the end of after
  abbrev pub Throughout : Shape → ℕ → List (Entry I) → List (Entry I) → Type 0
  Throughout t k [] before = has_work t k before ≡ true
  Throughout t k (e ∷ after) before = (has_work t k (e ∷ (after ++ before)) ≡ true) × Throughout t k after before
