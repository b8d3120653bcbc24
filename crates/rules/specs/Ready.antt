-- The table of refusals, read as what lets each call pass. Assumes nothing.
use Rattle.std.specs.Prelude.{◌≡◌, ℕ, ◌+◌, ◌<◌, ◌≤◌, Bool, true, false, length, Some, None, Decides}
use Rattle.rules.specs.Shape.{leaf}
use Rattle.rules.specs.Kind.{Kind}
use Rattle.rules.specs.State.{State, backlogged, picked, stored, open_turn}
use Rattle.rules.specs.Rules.{Grant, Call, submit, dispatch, pulse, end_turn, give_up, Answer, refused, accepted, granted, worked, closed, head_cost, may_stop, Step}

-- any answer but a refusal
abbrev pub is_accepted : Answer → Bool
is_accepted (refused e) = false
is_accepted accepted = true
is_accepted (granted g l c) = true
is_accepted (worked d) = true
is_accepted (closed d) = true

module _ {I : Type 0} (K : Kind I) where
  -- a submission
  pub record Enters (s : State I) (c : ℕ) (x : I) : Type 0 where
    pub known : c < s.shape.count
    pub ends : leaf s.shape c ≡ true
    pub low : 1 ≤ K.costs x
    pub high : K.costs x ≤ 65535
    pub full : length (s.lane c) ≡ s.queued c
    pub room : stored s < s.places

  -- a dispatch
  pub record Goes (s : State I) : Type 0 where
    pub free : s.phase ≡ None
    pub busy : backlogged s 0 ≡ true
    pub full : length (s.lane (picked s)) ≡ s.queued (picked s)
    pub meter : s.meter + head_cost K (s.lane (picked s)) ≤ 1000000000000
    pub turns : s.turns < 1000000000000

  -- a call that names the open turn's grant
  pub record Names (s : State I) (g : Grant) : Type 0 where
    pub opened : s.phase ≡ Some (open_turn s)
    pub house : g.house ≡ s.house
    pub turn : g.turn ≡ s.turns

  -- an ending
  pub record Ends (s : State I) : Type 0 where
    pub full : length (s.lane (open_turn s).leaf) ≡ s.queued (open_turn s).leaf
    pub cost : head_cost K (s.lane (open_turn s).leaf) ≡ (open_turn s).cost
    pub stops : may_stop K (s.lane (open_turn s).leaf) (open_turn s).done ≡ true

  -- each call
  abbrev pub Ready : State I → Call I → Type 0
  Ready s (submit c x) = Enters s c x
  Ready s dispatch = Goes s
  Ready s (pulse g) = Names s g
  Ready s (end_turn g) = Names s g × Ends s
  Ready s (give_up g) = Names s g × (length (s.lane (open_turn s).leaf) ≡ s.queued (open_turn s).leaf)

  -- a call is accepted exactly when it is ready
  abbrev pub Accepts : Type 0
  Accepts = (s : State I) (c : Call I) (a : Answer) (s' : State I) → Step K s c a s' → Decides (is_accepted a) (Ready s c)
