-- What the program prints.
use Rattle.std.specs.Prelude.{ℕ, ◌-◌, cond, List, [], ◌∷◌, ◌++◌, length, codes, decimal, vec_items, vec_len, ◌==◌}
use Rattle.std.specs.List.{flat_map}
use Rattle.links.specs.declared.outage.Outage.{Outage}
use Rattle.stalling.specs.declared.draw.Draw.{Draw}
use Rattle.stalling.specs.declared.play.Run.{Run}
use Rattle.plans.specs.declared.fault.Fault.{Fault}
use Rattle.plans.specs.declared.line.Line.{Line}
use Rattle.stalling.specs.Draws.{done_by, draw_text, idle_of}
use Rattle.plans.specs.Faults.{fault_text}
use Rattle.plans.specs.Inputs.{Begins, Told}
use Rattle.stalling.specs.Plays.{Stops}
use Rattle.plans.specs.Readings.{complete}
use Rattle.stalling.specs.Timetables.{Timetable}

-- some draws, one a line
abbrev pub told_draws : List Draw → List ℕ
told_draws xs = flat_map (λ x. draw_text x ++ 10 ∷ []) xs

-- `draws 3, idle 1`
abbrev pub done_text : ℕ → ℕ → List ℕ
done_text draws idle = codes "draws " ++ (decimal draws ++ (codes ", idle " ++ (decimal idle ++ codes "\n")))

-- `stopped: draws 100000, idle 99999, left 2`
abbrev pub stopped_text : ℕ → ℕ → ℕ → List ℕ
stopped_text draws idle left =
    codes "stopped: draws " ++ (decimal draws ++ (codes ", idle " ++ (decimal idle ++ (codes ", left " ++ (decimal left ++ codes "\n")))))

-- the last line: how many draws there were, how many of them were idle, and what is left, if anything is
abbrev pub last_line : ℕ → ℕ → ℕ → List ℕ
last_line draws idle left = cond (left == 0) (done_text draws idle) (stopped_text draws idle left)

-- how a run is told: its draws, and what they come to
abbrev pub run_text : Run → List ℕ
run_text r = told_draws (vec_items r.draws) ++ last_line (vec_len r.draws) r.idle r.left

-- the draws of an item of that cost, and what they come to
abbrev pub listing : List Draw → ℕ → List ℕ
listing xs cost = told_draws xs ++ last_line (length xs) (idle_of xs) (cost - done_by xs)

-- what is printed for an input: the draws of its item on its link, or its first fault
pub data Prints (bs : List ℕ) : List ℕ → Type 0 where
  played : (ls : List Line) (rate : ℕ) (os : List Outage) (cost : ℕ) (xs : List Draw) → Begins bs ls (complete rate os cost) [] → Timetable rate os 0 cost xs → Stops cost xs → Prints bs (listing xs cost)
  faulty : (f : Fault) → Told bs f → Prints bs (fault_text f ++ 10 ∷ [])
