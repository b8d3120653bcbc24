-- The draws so far are written, one a line.
use Rattle.std.proofs.Common.{take, vec_items}
use Rattle.std.specs.Fmt.{HasWritten, IsPlainFormatter}
use Rattle.stalling.specs.Listings.{told_draws}
use Rattle.stalling.proofs.listing.RunDisplay.fmt.Given as goal

abbrev pub invariant-loop-draw : goal.invariant-loop-draw
invariant-loop-draw g l =
    IsPlainFormatter l.initial.f → HasWritten g.W.Write.write_str_gives l.initial.f (told_draws (take l.draw-index (vec_items l.self.draws))) l.f
