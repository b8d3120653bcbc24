-- Tree, shelf and server at one moment, and what can be read off them. Assumes nothing.
use Rattle.std.specs.Prelude.{ℕ, zero, suc, ◌+◌, ◌-◌, ◌<◌, ◌≤◌, Bool, true, false, cond, not, ◌&&◌, List, [], length, Some, None, Option, ◌==◌, nat_lt}
use Rattle.rules.specs.Shape.{Shape, Sound, any, under, child, leaf}

-- an open turn: the leaf it serves, the cost it was dispatched at, and the work done in it
pub record Turn : Type 0 where
  pub leaf : ℕ
  pub cost : ℕ
  pub done : ℕ

-- start and finish tag of each class, virtual time of each node
pub record Tags : Type 0 where
  pub start : ℕ → ℕ
  pub finish : ℕ → ℕ
  pub virtual : ℕ → ℕ

-- tree, shelf and server: queued is what the tree counts in each lane, lane what the shelf holds there, places how many items the shelf
-- can hold, and work the server's number
pub record State (I : Type 0) : Type 0 where
  pub house : ℕ
  pub shape : Shape
  pub weight : ℕ → ℕ
  pub places : ℕ
  pub tags : Tags
  pub queued : ℕ → ℕ
  pub phase : Option Turn
  pub meter : ℕ
  pub turns : ℕ
  pub lane : ℕ → List I
  pub work : ℕ

-- what a tree is opened with, the size of its empty shelf, and the server's number then
pub record Opening : Type 0 where
  pub house : ℕ
  pub shape : Shape
  pub weight : ℕ → ℕ
  pub places : ℕ
  pub work : ℕ

-- an opening that a tree can have
pub record Valid (o : Opening) : Type 0 where
  pub sound : Sound o.shape
  pub weights : (k : ℕ) → k < o.shape.count → (1 ≤ o.weight k) × (o.weight k ≤ 16)

-- a newly opened tree with an empty shelf: all tags are 0
abbrev pub fresh : {I : Type 0} → Opening → State I
fresh o = record {
  house = o.house;
  shape = o.shape;
  weight = o.weight;
  places = o.places;
  work = o.work;
  tags = record { start = λ _. 0; finish = λ _. 0; virtual = λ _. 0 };
  queued = λ _. 0;
  phase = None;
  meter = 0;
  turns = 0;
  lane = λ _. [];
}

-- f 0 + .. + f (n - 1)
abbrev pub sum : (ℕ → ℕ) → ℕ → ℕ
sum f zero = 0
sum f (suc n) = f n + sum f n

-- f, but a at c
abbrev pub put : {A : Type 0} → (ℕ → A) → ℕ → A → ℕ → A
put f c a k = cond (k == c) a (f k)

-- the number, or 0
abbrev pub or_zero : Option ℕ → ℕ
or_zero None = 0
or_zero (Some n) = n

-- a tree is free or has its turn open
abbrev pub is_open : Option Turn → Bool
is_open None = false
is_open (Some u) = true

-- the open turn, or a turn of nothing
abbrev pub turn_of : Option Turn → Turn
turn_of None = record { leaf = 0; cost = 0; done = 0 }
turn_of (Some u) = u

-- with these counts, an item is counted in a lane at or below k
abbrev pub backlogged_by : Shape → (ℕ → ℕ) → ℕ → Bool
backlogged_by t queued k = any (λ l. under t k l && nat_lt 0 (queued l)) t.count

module _ {I : Type 0} where
  -- the classes that are backlogged
  abbrev pub backlogged : State I → ℕ → Bool
  backlogged s = backlogged_by s.shape s.queued

  -- class n in the place of the best so far, if it is a backlogged child of the node and has a smaller start tag
  abbrev pub better : State I → ℕ → ℕ → Option ℕ → Option ℕ
  better s node n None = cond (child s.shape node n && backlogged s n) (Some n) None
  better s node n (Some b) = cond (child s.shape node n && backlogged s n && nat_lt (s.tags.start n) (s.tags.start b)) (Some n) (Some b)

  -- of the node's backlogged children below number n: the least start tag, then the lowest number
  abbrev pub best : State I → ℕ → ℕ → Option ℕ
  best s node zero = None
  best s node (suc n) = better s node n (best s node n)

  -- the child that a dispatch goes to from the node
  abbrev pub next : State I → ℕ → ℕ
  next s node = or_zero (best s node s.shape.count)

  -- the leaf that a dispatch comes to from the node, in n steps at most
  abbrev pub descend : State I → ℕ → ℕ → ℕ
  descend s zero node = node
  descend s (suc n) node = cond (leaf s.shape node) node (descend s n (next s node))

  -- it starts at the root
  unfoldable pub picked : State I → ℕ
  picked s = descend s 8 0

  -- how many items the shelf holds
  unfoldable pub stored : State I → ℕ
  stored s = sum (λ l. length (s.lane l)) 64

  -- lane length is not the tree's count
  abbrev pub mismatch : State I → ℕ → Bool
  mismatch s l = not (length (s.lane l) == s.queued l)

  -- the turn that is open
  abbrev pub open_turn : State I → Turn
  open_turn s = turn_of s.phase

  -- what is still to do in it
  abbrev pub to_do : State I → ℕ
  to_do s = (open_turn s).cost - (open_turn s).done
