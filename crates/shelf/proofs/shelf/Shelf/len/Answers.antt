use Rattle.std.proofs.Common.{sym, ◌∙◌}
use Rattle.shelf.proofs.Items.{lane_length}
use Rattle.shelf.proofs.shelf.Shelf.len.Goals as goal

pub returns : goal.returns
returns g c = let s = c.args.self.now in c.len.ensures ∙ sym (lane_length s.places.now s.table s.fits c.args.lane)
