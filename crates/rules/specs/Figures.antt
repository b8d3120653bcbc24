-- Eight figures of the rules, each beside what it has to be. Assumes nothing.
use Rattle.std.specs.Prelude.{ℕ, Bool, true, ◌&&◌, List, [], ◌∷◌, Some, None, Option, ◌==◌}
use Rattle.base.specs.Charge.{charged}
use Rattle.base.specs.Numbers.{number}
use Rattle.items.specs.declared.Quantum.{Quantum}
use Rattle.items.specs.declared.Block.{Block}
use Rattle.items.specs.contracts.QuantumItem.TheImpl.{ghosts as quanta}
use Rattle.items.specs.contracts.BlockItem.TheImpl.{ghosts as blocks}
use Rattle.rules.specs.Kind.{Kind}
use Rattle.rules.specs.State.{Turn, State, put, picked}
use Rattle.rules.specs.Rules.{Call, submit, end_turn, head_cost, refusal, effect}

module _ {I : Type 0} where
  -- a tree of a root with two leaves, 1 and 2, that are both at weight 1: each lane holds the items given, all start tags are equal, all
  -- finish tags are f and all virtual times are v, and turn 1 may be open
  abbrev pub two_leaves : (ℕ → List I) → (ℕ → ℕ) → ℕ → ℕ → Option Turn → State I
  two_leaves lane queued f v phase = record {
    house = 0;
    shape = record { count = 3; parent = λ _. 0 };
    weight = λ _. 1;
    places = 16;
    tags = record { start = λ _. 0; finish = λ _. f; virtual = λ _. v };
    queued = queued;
    phase = phase;
    meter = 0;
    turns = 1;
    lane = lane;
    work = 0;
  }

  -- an item in each leaf
  abbrev pub both_waiting : I → State I
  both_waiting x = two_leaves (put (put (λ _. []) 1 (x ∷ [])) 2 (x ∷ [])) (put (put (λ _. 0) 1 1) 2 1) 0 0 None

  -- an item in leaf 2 alone
  abbrev pub one_waiting : I → ℕ → ℕ → State I
  one_waiting x f v = two_leaves (put (λ _. []) 2 (x ∷ [])) (put (λ _. 0) 2 1) f v None

  -- leaf 1 is served, and d units of its item are done
  abbrev pub serving : Kind I → I → ℕ → State I
  serving K x d = two_leaves (put (λ _. []) 1 (x ∷ [])) (put (λ _. 0) 1 1) 0 0 (Some (record { leaf = 1; cost = K.costs x; done = d }))

  -- the number of the call's refusal, or else 0
  abbrev pub refused_by : Kind I → State I → Call I → ℕ
  refused_by K s c = elim (refusal K s c) [ None ↦ 0 | Some e ↦ number e ]

  -- what is left to do in leaf 1 after the call, or 0 where it is refused
  abbrev pub cost_left : Kind I → State I → Call I → ℕ
  cost_left K s c = elim (refusal K s c) [ None ↦ head_cost K ((effect K s c 0).lane 1) | Some e ↦ 0 ]

-- a quantum and a block of cost 10, and the ending of turn 1
abbrev pub quantum : Quantum
quantum = record { task = 0; time = 10 }

abbrev pub block : Block
block = record { first = 0; length = 10 }

abbrev pub ending : {I : Type 0} → Call I
ending = end_turn (record { house = 0; turn = 1 })

-- the group: charges; equal tags at classes 1 and 2; a class that wakes with its finish tag below and above the virtual time; an ending after 8 units
abbrev pub figures : List (ℕ × ℕ)
figures =
    (charged 8 2, 2882880) ∷
    (charged 1 16, 45045) ∷
    (charged 65535 1, 47232385200) ∷
    (picked (both_waiting quantum), 1) ∷
    ((effect quanta (one_waiting quantum 3 5) (submit 1 quantum) 0).tags.start 1, 5) ∷
    ((effect quanta (one_waiting quantum 5 3) (submit 1 quantum) 0).tags.start 1, 5) ∷
    (refused_by blocks (serving blocks block 8) ending, 10) ∷
    (cost_left quanta (serving quanta quantum 8) ending, 2) ∷ []

-- in each pair the two are the same
abbrev pub all_agree : List (ℕ × ℕ) → Bool
all_agree [] = true
all_agree (f ∷ fs) = f.0 == f.1 && all_agree fs
