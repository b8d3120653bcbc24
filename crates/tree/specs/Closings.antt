-- What closing a turn makes of a tree.
use Rattle.std.specs.Prelude.{◌≡◌, ℕ, ◌+◌, Bool}
use Rattle.classes.specs.Tables.{shape_of, weight_of}
use Rattle.rules.specs.Shape.{under}
use Rattle.tags.specs.declared.TagStore.{Ghosts as TagStore}
use Rattle.tree.specs.Loads.{load}
use Rattle.tree.specs.Walks.{settled}
use Rattle.tree.specs.declared.phase.Phase.TheVariants.{Free}
use Rattle.tree.specs.declared.tree.Tree.{Tree}

-- u is t with a turn of the leaf closed after so much work; gone says that its item left the lane
pub record Closes {T I : Type 0} {H : TagStore T} (t : Tree T I H) (leaf done : ℕ) (gone : Bool) (u : Tree T I H) : Type 0 where
  pub house : u.house ≡ t.house
  pub table : u.queue.table ≡ t.queue.table
  pub turns : u.turns ≡ t.turns
  pub free : u.phase ≡ Free
  pub charged : u.meter.0 ≡ t.meter.0 + done
  pub loads : (k : ℕ) → load u.queue.loads k ≡ settled (shape_of t.queue.table) (weight_of t.queue.table) t.queue.loads (λ j. under (shape_of t.queue.table) j leaf) done gone k
