-- The five calls: when each is refused, what it answers, and what it leaves. Assumes nothing.
use Rattle.std.specs.Prelude.{◌≡◌, ℕ, ◌+◌, ◌-◌, ◌≤◌, max, Bool, false, cond, not, ◌&&◌, ◌||◌, List, [], ◌∷◌, ◌++◌, Some, None, Option, ◌==◌, nat_le, nat_lt}
use Rattle.base.specs.Charge.{charged}
use Rattle.base.specs.declared.refusal.Refusal.{Refusal}
use Rattle.base.specs.declared.refusal.Refusal.TheVariants.{UnknownClass, NotALeaf, BadCost, LaneMismatch, ShelfFull, TurnOpen, NothingBacklogged, LimitReached, WrongGrant, NoStoppingPoint}
use Rattle.rules.specs.Shape.{under, leaf}
use Rattle.rules.specs.Kind.{Kind}
use Rattle.rules.specs.State.{Tags, State, put, is_open, backlogged_by, backlogged, next, picked, stored, mismatch, open_turn, to_do}

-- what a grant carries: its house number and its turn number
pub record Grant : Type 0 where
  pub house : ℕ
  pub turn : ℕ

-- a submission names a class and an item; the last three calls name a grant
pub data Call (I : Type 0) : Type 0 where
  submit : ℕ → I → Call I
  dispatch : Call I
  pulse : Grant → Call I
  end_turn : Grant → Call I
  give_up : Grant → Call I

-- a dispatch answers the grant, the leaf and the cost; a pulse what was done; a closing what was charged
pub data Answer : Type 0 where
  refused : Refusal → Answer
  accepted : Answer
  granted : Grant → ℕ → ℕ → Answer
  worked : ℕ → Answer
  closed : ℕ → Answer

-- the refusal beside the first check that passes
abbrev pub first : List (Bool × Refusal) → Option Refusal
first [] = None
first (c ∷ cs) = cond c.0 (Some c.1) (first cs)

module _ {I : Type 0} where
  -- no turn is open, or house or turn number is not the open turn's
  abbrev pub wrong_grant : State I → Grant → Bool
  wrong_grant s g = not (is_open s.phase) || not (g.house == s.house) || not (g.turn == s.turns)

  -- submission to c: it and the classes above it but the root, each if it was not backlogged, start at the later of their parent's virtual
  -- time and their own finish tag
  abbrev pub woken : State I → ℕ → Tags
  woken s c = record {
    start = λ k. cond (nat_lt 0 k && under s.shape k c && not (backlogged s k)) (max (s.tags.virtual (s.shape.parent k)) (s.tags.finish k)) (s.tags.start k);
    finish = s.tags.finish;
    virtual = s.tags.virtual;
  }

  -- dispatch: each node on the path takes the start tag of the child it goes to for its virtual time
  abbrev pub advanced : State I → Tags
  advanced s = record {
    start = s.tags.start;
    finish = s.tags.finish;
    virtual = λ k. cond (under s.shape k (picked s) && not (leaf s.shape k)) (s.tags.start (next s k)) (s.tags.virtual k);
  }

  -- the finish tag of class k when d units are charged to the leaf c: it and the classes above it but the root finish behind their parts
  abbrev pub reached : State I → ℕ → ℕ → ℕ → ℕ
  reached s c d k = cond (nat_lt 0 k && under s.shape k c) (s.tags.start k + charged d (s.weight k)) (s.tags.finish k)

  -- the tags after that charge, where queued is the count after the item's change: a class on the path that is still backlogged starts at
  -- the later of its parent's virtual time and its finish tag; a node on the path that rests, and its children's finish tags, fall to 0
  abbrev pub after_charge : State I → ℕ → ℕ → (ℕ → ℕ) → Tags
  after_charge s c d queued =
      let busy : ℕ → Bool = backlogged_by s.shape queued in
      record {
        start = λ k. cond (nat_lt 0 k && under s.shape k c && busy k) (max (s.tags.virtual (s.shape.parent k)) (reached s c d k)) (s.tags.start k);
        finish = λ k. cond (nat_lt 0 k && under s.shape (s.shape.parent k) c && not (busy (s.shape.parent k))) 0 (reached s c d k);
        virtual = λ k. cond (under s.shape k c && not (busy k)) 0 (s.tags.virtual k);
      }

  -- the open turn is closed: its work is charged, and the lanes and counts are as given
  abbrev pub settle : State I → (ℕ → List I) → (ℕ → ℕ) → State I
  settle s lane queued = record {
    house = s.house;
    shape = s.shape;
    weight = s.weight;
    places = s.places;
    turns = s.turns;
    work = s.work;
    tags = after_charge s (open_turn s).leaf (open_turn s).done queued;
    queued = queued;
    lane = lane;
    phase = None;
    meter = s.meter + (open_turn s).done;
  }

  module _ (K : Kind I) where
    -- the cost of the first item, or 0
    abbrev pub head_cost : List I → ℕ
    head_cost [] = 0
    head_cost (x ∷ xs) = K.costs x

    -- the first item may stop after d units
    abbrev pub may_stop : List I → ℕ → Bool
    may_stop [] d = false
    may_stop (x ∷ xs) d = K.stops x d

    -- the lane after d units of its head are done in a turn that is ended: the head leaves when all its cost is done, otherwise what is left
    -- takes its place
    abbrev pub settled : List I → ℕ → List I
    settled [] d = []
    settled (x ∷ xs) d = cond (d == K.costs x) xs (K.left x d ∷ xs)

    -- the table of refusals: the checks of each call, in order
    abbrev pub table : State I → Call I → List (Bool × Refusal)
    table s (submit c x) =
        (not (nat_lt c s.shape.count), UnknownClass) ∷
        (not (leaf s.shape c), NotALeaf) ∷
        (not (nat_le 1 (K.costs x) && nat_le (K.costs x) 65535), BadCost) ∷
        (mismatch s c, LaneMismatch) ∷
        (nat_le s.places (stored s), ShelfFull) ∷ []
    table s dispatch =
        (is_open s.phase, TurnOpen) ∷
        (not (backlogged s 0), NothingBacklogged) ∷
        (mismatch s (picked s), LaneMismatch) ∷
        (nat_lt 1000000000000 (s.meter + head_cost (s.lane (picked s))) || nat_le 1000000000000 s.turns, LimitReached) ∷ []
    table s (pulse g) = (wrong_grant s g, WrongGrant) ∷ []
    table s (end_turn g) =
        (wrong_grant s g, WrongGrant) ∷
        (mismatch s (open_turn s).leaf || not (head_cost (s.lane (open_turn s).leaf) == (open_turn s).cost), LaneMismatch) ∷
        (not (may_stop (s.lane (open_turn s).leaf) (open_turn s).done), NoStoppingPoint) ∷ []
    table s (give_up g) =
        (wrong_grant s g, WrongGrant) ∷
        (mismatch s (open_turn s).leaf, LaneMismatch) ∷ []

    -- the first of them that refuses the call
    abbrev pub refusal : State I → Call I → Option Refusal
    refusal s c = first (table s c)

    -- the answer of an accepted call; d is what the server did at the pulse's draw
    abbrev pub answer : State I → Call I → ℕ → Answer
    answer s (submit c x) d = accepted
    answer s dispatch d = granted (record { house = s.house; turn = s.turns + 1 }) (picked s) (head_cost (s.lane (picked s)))
    answer s (pulse g) d = worked d
    answer s (end_turn g) d = closed (open_turn s).done
    answer s (give_up g) d = closed (open_turn s).done

    -- the state that an accepted call leaves
    abbrev pub effect : State I → Call I → ℕ → State I
    effect s (submit c x) d = record {
      house = s.house;
      shape = s.shape;
      weight = s.weight;
      places = s.places;
      phase = s.phase;
      meter = s.meter;
      turns = s.turns;
      work = s.work;
      tags = woken s c;
      queued = put s.queued c (s.queued c + 1);
      lane = put s.lane c (s.lane c ++ x ∷ []);
    }
    effect s dispatch d = record {
      house = s.house;
      shape = s.shape;
      weight = s.weight;
      places = s.places;
      queued = s.queued;
      lane = s.lane;
      meter = s.meter;
      work = s.work;
      tags = advanced s;
      turns = s.turns + 1;
      phase = Some (record { leaf = picked s; cost = head_cost (s.lane (picked s)); done = 0 });
    }
    effect s (pulse g) d = record {
      house = s.house;
      shape = s.shape;
      weight = s.weight;
      places = s.places;
      tags = s.tags;
      queued = s.queued;
      lane = s.lane;
      meter = s.meter;
      turns = s.turns;
      work = s.work + d;
      phase = Some (record { leaf = (open_turn s).leaf; cost = (open_turn s).cost; done = (open_turn s).done + d });
    }
    effect s (end_turn g) d =
        let u = open_turn s in
        settle s (put s.lane u.leaf (settled (s.lane u.leaf) u.done)) (put s.queued u.leaf (cond (u.done == u.cost) (s.queued u.leaf - 1) (s.queued u.leaf)))
    effect s (give_up g) d = settle s s.lane s.queued

    -- what the first refusal of the table, if any, makes of a call, its answer and the state it leaves: refused with nothing changed, or
    -- accepted; the one value left free is d, which is what the server did and no more than was still to do
    abbrev pub Says : Option Refusal → State I → Call I → Answer → State I → Type 0
    Says (Some e) s c a s' = (a ≡ refused e) × (s' ≡ s)
    Says None s c a s' = (d : ℕ) × (d ≤ to_do s) × (a ≡ answer s c d) × (s' ≡ effect s c d)

    -- one call, its answer, and the state it leaves
    abbrev pub Step : State I → Call I → Answer → State I → Type 0
    Step s c a s' = Says (refusal s c) s c a s'
