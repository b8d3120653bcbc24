-- A worked example: two classes, film at weight 2 and touch at weight 1, on a server that does up to 8 units at a draw. Assumes nothing.
use Rattle.std.specs.Prelude.{ℕ, List, [], ◌∷◌, Some, None}
use Rattle.base.specs.declared.refusal.Refusal.TheVariants.{TurnOpen}
use Rattle.items.specs.declared.Quantum.{Quantum}
use Rattle.items.specs.contracts.QuantumItem.TheImpl.{ghosts as quanta}
use Rattle.rules.specs.Kind.{Kind}
use Rattle.rules.specs.State.{State, Opening, fresh, put}
use Rattle.rules.specs.Rules.{Grant, Call, submit, dispatch, pulse, end_turn, give_up, Answer, refused, accepted, granted, worked, closed, refusal, answer, effect}

-- the answers to calls made one after the other, each with what the server did at its draw
abbrev pub answers : {I : Type 0} → Kind I → State I → List (Call I × ℕ) → List Answer
answers K s [] = []
answers K s (c ∷ cs) = elim (refusal K s c.0) [
  | Some e ↦ refused e ∷ answers K s cs
  | None ↦ answer K s c.0 c.1 ∷ answers K (effect K s c.0 c.1) cs
]

-- the root with film and touch below it
abbrev pub film : ℕ
film = 1

abbrev pub touch : ℕ
touch = 2

abbrev pub screen : Opening
screen = record { house = 0; shape = record { count = 3; parent = λ _. 0 }; weight = put (λ _. 1) film 2; places = 256; work = 0 }

-- so much time for a task
abbrev pub time : ℕ → Quantum
time n = record { task = 0; time = n }

-- the grant of a turn
abbrev pub turn : ℕ → Grant
turn n = record { house = 0; turn = n }

-- film gets 10 units and touch 4; the second turn is asked for twice, and the last one given up
abbrev pub calls : List (Call Quantum × ℕ)
calls =
    (submit film (time 10), 0) ∷
    (submit touch (time 4), 0) ∷
    (dispatch, 0) ∷
    (pulse (turn 1), 8) ∷
    (end_turn (turn 1), 0) ∷
    (dispatch, 0) ∷
    (dispatch, 0) ∷
    (pulse (turn 2), 4) ∷
    (end_turn (turn 2), 0) ∷
    (dispatch, 0) ∷
    (give_up (turn 3), 0) ∷ []

-- what the rules answer
abbrev pub played : List Answer
played = answers quanta (fresh screen) calls

-- what they have to answer: film is served first, by its lower number, then touch, by its lower start tag, then film with what is left
abbrev pub expected : List Answer
expected =
    accepted ∷
    accepted ∷
    granted (turn 1) film 10 ∷
    worked 8 ∷
    closed 8 ∷
    granted (turn 2) touch 4 ∷
    refused TurnOpen ∷
    worked 4 ∷
    closed 4 ∷
    granted (turn 3) film 2 ∷
    closed 0 ∷ []
