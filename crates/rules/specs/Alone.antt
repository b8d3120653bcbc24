-- A class's own calls, and the tree that has it for its root. Assumes nothing.
use Rattle.std.specs.Prelude.{◌≡◌, ℕ, zero, suc, ◌+◌, ◌<◌, Bool, true, false, cond, ◌&&◌, List, [], ◌∷◌, Some, None, Option, ◌==◌, ◌≢◌}
use Rattle.rules.specs.Shape.{Shape, under}
use Rattle.rules.specs.Kind.{Kind}
use Rattle.rules.specs.State.{Turn, State, Opening, fresh, open_turn}
use Rattle.rules.specs.Rules.{Grant, Call, submit, dispatch, pulse, end_turn, give_up, Answer, refused, accepted, granted, worked, closed, Step}
use Rattle.rules.specs.History.{Entry, serves}

-- how many of the classes below number n lie at or below g: where n does so itself, its number in the tree that has g for its root
abbrev pub rank : Shape → ℕ → ℕ → ℕ
rank t g zero = 0
rank t g (suc n) = cond (under t g n) 1 0 + rank t g n

-- the class at or below g that has the rank j, looked for below number n
abbrev pub member : Shape → ℕ → ℕ → ℕ → ℕ
member t g j zero = g
member t g j (suc n) = cond (under t g n && rank t g n == j) n (member t g j n)

-- g as root, and the classes below it in order of number
abbrev pub subtree : Shape → ℕ → Shape
subtree t g = record {
  count = rank t g t.count;
  parent = λ j. cond (j == 0) 0 (rank t g (t.parent (member t g j t.count)));
}

-- a new tree of that shape with the same weights and an empty shelf of the same size; its house number and its server's number are its own
abbrev pub alone : Opening → ℕ → ℕ → ℕ → Opening
alone o g house work = record { house = house; shape = subtree o.shape g; weight = λ j. o.weight (member o.shape g j o.shape.count); places = o.places; work = work }

-- an answer as that tree gives it: classes by rank, and its own grant
abbrev pub answer_alone : Shape → ℕ → Grant → Answer → Answer
answer_alone t g own (refused e) = refused e
answer_alone t g own accepted = accepted
answer_alone t g own (granted theirs l c) = granted own (rank t g l) c
answer_alone t g own (worked d) = worked d
answer_alone t g own (closed d) = closed d

module _ {I : Type 0} where
  -- a call as that tree takes it: classes by rank, and its own grant
  abbrev pub call_alone : Shape → ℕ → Grant → Call I → Call I
  call_alone t g own (submit c x) = submit (rank t g c) x
  call_alone t g own dispatch = dispatch
  call_alone t g own (pulse theirs) = pulse own
  call_alone t g own (end_turn theirs) = end_turn own
  call_alone t g own (give_up theirs) = give_up own

  -- the grant that a tree gave last
  abbrev pub last_grant : State I → Grant
  last_grant s = record { house = s.house; turn = s.turns }

  -- the grant that it gives next
  abbrev pub next_grant : State I → Grant
  next_grant s = record { house = s.house; turn = s.turns + 1 }

  -- a submission to a class at or below g
  abbrev pub submits_to : Shape → ℕ → Call I → Bool
  submits_to t g (submit c x) = under t g c
  submits_to t g dispatch = false
  submits_to t g (pulse x) = false
  submits_to t g (end_turn x) = false
  submits_to t g (give_up x) = false

  -- whether e, made after h, is an own call of g: an accepted submission to a leaf at or below g, or an accepted call of a turn that serves one
  abbrev pub owns : Shape → ℕ → Entry I → List (Entry I) → Bool
  owns t g e h = elim e.answer [ refused n ↦ false | accepted ↦ submits_to t g e.call | granted x l c ↦ under t g l | worked d ↦ serves t g h | closed d ↦ serves t g h ]

  -- the first of a lane
  abbrev pub head : List I → Option I
  head [] = None
  head (x ∷ xs) = Some x

  -- the first item in the leaf of a turn
  abbrev pub item_of : (ℕ → List I) → Option Turn → Option I
  item_of lane None = None
  item_of lane (Some u) = head (lane u.leaf)

  -- the item that the open turn serves
  abbrev pub turn_item : State I → Option I
  turn_item s = item_of s.lane s.phase

-- k is a class of the tree, and is g or lies below it
abbrev pub Inside : Shape → ℕ → ℕ → Type 0
Inside t g k = (k < t.count) × (under t g k ≡ true)

-- the tree alone, in state a, has what g's part of the whole has in state s: start and finish tags below g, virtual times and lanes at and
-- below it, and the item of a turn that serves it
pub record Agrees {I : Type 0} (t : Shape) (g : ℕ) (s a : State I) : Type 0 where
  pub start : (k : ℕ) → Inside t g k → (k ≢ g) → a.tags.start (rank t g k) ≡ s.tags.start k
  pub finish : (k : ℕ) → Inside t g k → (k ≢ g) → a.tags.finish (rank t g k) ≡ s.tags.finish k
  pub virtual : (k : ℕ) → Inside t g k → a.tags.virtual (rank t g k) ≡ s.tags.virtual k
  pub lane : (k : ℕ) → Inside t g k → a.lane (rank t g k) ≡ s.lane k
  pub item : under t g (open_turn s).leaf ≡ true → turn_item a ≡ turn_item s

module _ {I : Type 0} (K : Kind I) (o : Opening) (g : ℕ) (new : Opening) where
  -- a history that leads to s, and beside it the own calls of g on the new tree, that lead to a: each is accepted again with the same
  -- answer, and after it, as after every other call, the two agree
  pub data Beside : List (Entry I) → State I → State I → Type 0 where
    both_opened : Beside [] (fresh o) (fresh new)
    own_call : {h : List (Entry I)} {s s' a a' : State I} {e : Entry I} → Beside h s a → Step K s e.call e.answer s' → owns o.shape g e h ≡ true →
        Step K a (call_alone o.shape g (last_grant a) e.call) (answer_alone o.shape g (next_grant a) e.answer) a' → Agrees o.shape g s' a' → Beside (e ∷ h) s' a'
    other_call : {h : List (Entry I)} {s s' a : State I} {e : Entry I} → Beside h s a → Step K s e.call e.answer s' → owns o.shape g e h ≡ false →
        Agrees o.shape g s' a → Beside (e ∷ h) s' a
