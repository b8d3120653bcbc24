-- What the three walks along a path make of the loads, one class at a time, and the way down by the store.
-- `on` marks the classes that a walk has come by: all of them once it has come to the root.
use Rattle.std.specs.Prelude.{◌≡◌, ℕ, zero, suc, ◌+◌, ◌-◌, ◌<◌, max, Bool, true, false, cond, not, ◌&&◌, List, Some, None, Option, ◌==◌, nat_lt}
use Rattle.base.specs.Charge.{charged}
use Rattle.base.specs.declared.units.Parts.{Parts}
use Rattle.tags.specs.Held.{Held, least_of}
use Rattle.rules.specs.Shape.{Shape, under, child}
use Rattle.tree.specs.Loads.{load}
use Rattle.tree.specs.declared.load.Load.{Load}

-- an item more waits below each class of the path; a class that was not backlogged starts at the later of its parent's virtual time and its
-- own finish tag
module _ (t : Shape) (ls : List Load) (on : ℕ → Bool) where
  abbrev pub wakes : ℕ → Bool
  wakes k = nat_lt 0 k && on k && (load ls k).backlog == 0

  abbrev pub woken : ℕ → Load
  woken k = record {
    backlog = cond (on k) ((load ls k).backlog + 1) (load ls k).backlog;
    start = record { 0 = cond (wakes k) (max (load ls (t.parent k)).vtime.0 (load ls k).finish.0) (load ls k).start.0 };
    finish = (load ls k).finish;
    vtime = (load ls k).vtime;
  }

-- each class of the path above c has the start tag of the one below it on the path for its virtual time; nothing else changes
pub record Advanced (t : Shape) (c : ℕ) (ls ms : List Load) : Type 0 where
  pub same : (k : ℕ) → ((load ms k).backlog ≡ (load ls k).backlog) × ((load ms k).start ≡ (load ls k).start) × ((load ms k).finish ≡ (load ls k).finish)
  pub on : (k : ℕ) → 0 < k → under t k c ≡ true → (load ms (t.parent k)).vtime ≡ (load ls k).start
  pub off : (k : ℕ) → (under t k c && not (k == c)) ≡ false → (load ms k).vtime ≡ (load ls k).vtime

-- a closing charges d units at the weights w; `gone` says that its item left the lane
module _ (t : Shape) (w : ℕ → ℕ) (ls : List Load) (on : ℕ → Bool) (d : ℕ) (gone : Bool) where
  -- the items that are left
  abbrev pub fewer : ℕ → ℕ
  fewer k = cond (on k && gone) ((load ls k).backlog - 1) (load ls k).backlog

  -- class k is a node of the path that is no longer backlogged
  abbrev pub rests : ℕ → Bool
  rests k = on k && not (nat_lt 0 (fewer k))

  -- the finish tag that the charge leads to
  abbrev pub reached : ℕ → ℕ
  reached k = cond (nat_lt 0 k && on k) ((load ls k).start.0 + charged d (w k)) (load ls k).finish.0

  -- a class of the path that is still backlogged starts at the later of its parent's virtual time and its finish tag
  abbrev pub restarted : ℕ → ℕ
  restarted k = cond (nat_lt 0 k && on k && nat_lt 0 (fewer k)) (max (load ls (t.parent k)).vtime.0 (reached k)) (load ls k).start.0

  -- the classes of the path with their charges, before a node rests
  abbrev pub charged_load : ℕ → Load
  charged_load k = record { backlog = fewer k; start = record { 0 = restarted k }; finish = record { 0 = reached k }; vtime = (load ls k).vtime }

  -- where a node of the path rests, its virtual time and its children's finish tags are 0
  abbrev pub settled : ℕ → Load
  settled k = record {
    backlog = fewer k;
    start = record { 0 = restarted k };
    finish = record { 0 = cond (nat_lt 0 k && rests (t.parent k)) 0 (reached k) };
    vtime = record { 0 = cond (rests k) 0 (load ls k).vtime.0 };
  }

-- a node rests: its virtual time and its children's finish tags are 0
abbrev pub rested : Shape → List Load → ℕ → ℕ → Load
rested t ls node k = record {
  backlog = (load ls k).backlog;
  start = (load ls k).start;
  finish = record { 0 = cond (child t node k) 0 (load ls k).finish.0 };
  vtime = record { 0 = cond (node == k) 0 (load ls k).vtime.0 };
}

-- the child that the store has for least under a node, or the node itself
abbrev pub child_or : Option (ℕ × Parts) → ℕ → ℕ
child_or None node = node
child_or (Some p) node = p.0

-- n steps down from a node
abbrev pub down : Held → ℕ → ℕ → ℕ
down h zero node = node
down h (suc n) node = down h n (child_or (least_of h node) node)

-- as far down from a node as the store leads, since no class is deeper than 7 (no `abbrev`, since at 7 that would compute)
unfoldable pub lowest : Held → ℕ → ℕ
lowest h node = down h 7 node

-- from the least child of the root as far down as the store leads; none where the root has no such child
abbrev pub below_root : Held → Option (ℕ × Parts) → Option ℕ
below_root h None = None
below_root h (Some p) = Some (down h 7 p.0)

-- the leaf that a dispatch serves: the root where it has no children and counts an item
unfoldable pub pick : Held → Bool → ℕ → Option ℕ
pick h alone waiting = cond alone (cond (nat_lt 0 waiting) (Some 0) None) (below_root h (least_of h 0))
