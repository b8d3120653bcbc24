-- The items that a tree counts.
use Rattle.std.specs.Prelude.{◌≡◌, ℕ, cond, List}
use Rattle.rules.specs.Shape.{Shape, under, leaf}
use Rattle.rules.specs.State.{sum}
use Rattle.tree.specs.Loads.{load}
use Rattle.tree.specs.declared.load.Load.{Load}

-- in the lane of class k: only leaves have items
abbrev pub queued : Shape → List Load → ℕ → ℕ
queued t ls k = cond (leaf t k) (load ls k).backlog 0

-- in the lanes at and below class k
abbrev pub waiting : Shape → List Load → ℕ → ℕ
waiting t ls k = sum (λ l. cond (under t k l) (queued t ls l) 0) t.count

-- the backlog of each class is what waits at and below it
abbrev pub Counted : Shape → List Load → Type 0
Counted t ls = (k : ℕ) → (load ls k).backlog ≡ waiting t ls k
