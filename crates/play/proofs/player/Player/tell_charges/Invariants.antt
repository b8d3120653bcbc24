use Rattle.listing.specs.Listings.{Gains}
use Rattle.play.specs.Charges.{charged_at}
use Rattle.play.specs.Listings.{sums}
use Rattle.play.proofs.player.Player.tell_charges.Given as goal

abbrev pub invariant-loop-number : goal.invariant-loop-number
invariant-loop-number g l = Gains l.initial.listing (sums l.self.tree.queue.table (charged_at l.self.charges) l.number) l.listing
