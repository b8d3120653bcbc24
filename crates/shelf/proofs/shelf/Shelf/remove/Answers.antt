use Rattle.shelf.specs.Lanes.{lanes}
use Rattle.shelf.proofs.Items.{removed_lane, removed_free}
use Rattle.shelf.proofs.Prices.{remove_priced}
use Rattle.shelf.proofs.shelf.Shelf.remove.Goals as goal

pub returns-clause-lanes : goal.returns-clause-lanes
returns-clause-lanes g c =
    let s = c.args.self.now in
    removed_lane s.places.now s.table s.fits c.release.new.self c.args.lane c.release.result c.release.ensures.value c.release.ensures.after

pub returns-clause-free : goal.returns-clause-free
returns-clause-free g c =
    let s = c.args.self.now in
    removed_free s.places.now s.table s.fits c.release.new.self c.args.lane c.in_ok-item.item c.release.result c.release.ensures.value c.release.ensures.after c.in_ok-item.ensures

pub invariant_of-self-clause-priced : goal.invariant_of-self-clause-priced
invariant_of-self-clause-priced g c =
    let s = c.args.self.now in
    remove_priced g.I.Item.costs (lanes s) _ c.args.lane s.priced (removed_lane s.places.now s.table s.fits c.release.new.self c.args.lane c.release.result c.release.ensures.value c.release.ensures.after)
