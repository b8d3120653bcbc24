-- The draws on a link of a fixed rate with outages, as the rules of the links have them.
use Rattle.std.specs.Prelude.{◌≡◌, ℕ, ◌+◌, ◌-◌, ◌<◌, min, cond, List, [], ◌∷◌}
use Rattle.links.specs.Outages.{covered}
use Rattle.links.specs.declared.outage.Outage.{Outage}
use Rattle.stalling.specs.declared.draw.Draw.{Draw}

-- draw k, which asks for `left` units: nothing in an outage, else up to the rate
abbrev pub drawn : ℕ → List Outage → ℕ → ℕ → ℕ
drawn rate os k left = cond (covered os k) 0 (min left rate)

-- while units are left, one draw after the other from draw k on, each for all that is left
abbrev pub Timetable : ℕ → List Outage → ℕ → ℕ → List Draw → Type 0
Timetable rate os k left [] = Unit {0}
Timetable rate os k left (x ∷ xs) =
    (0 < left) ×
    (x ≡ record { number = k; wanted = left; done = drawn rate os k left }) ×
    Timetable rate os (k + 1) (left - drawn rate os k left) xs
