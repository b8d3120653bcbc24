-- Draws, what is counted of them, and how one is told.
use Rattle.std.specs.Prelude.{ℕ, List, ◌++◌, codes, decimal, ◌==◌}
use Rattle.std.specs.List.{sum_by, count_by}
use Rattle.stalling.specs.declared.draw.Draw.{Draw}

-- the units that some draws did
abbrev pub done_by : List Draw → ℕ
done_by xs = sum_by (λ x. x.done) xs

-- how many of them did nothing
abbrev pub idle_of : List Draw → ℕ
idle_of xs = count_by (λ x. x.done == 0) xs

-- `draw 0 wanted 10 done 8`
abbrev pub draw_text : Draw → List ℕ
draw_text x =
    codes "draw " ++ (decimal x.number ++ (codes " wanted " ++ (decimal x.wanted ++ (codes " done " ++ decimal x.done))))
