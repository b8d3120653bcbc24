use Rattle.std.proofs.Common.{min, length, sym, ◌∙◌}
use Rattle.rules.proofs.Bounds.{laws_met}
use Rattle.rules.proofs.Tests.{not_some}
use Rattle.play.specs.Listings.{Lists}
use Rattle.play.proofs.Finishing.{plays_out, lists, written_out}
use Rattle.play.proofs.player.list.list.Goals as goal

pub unreachable-requires : goal.unreachable-requires
unreachable-requires g c =
    let (h, (bs, rests, holds)) = plays_out g.I.Item g.S.Server g.I.OfCost.item c.args.draft (min (length c.args.places.now) 256) c.open-tree.result c.args.link c.new-2.result c.new.result
    c.new.ensures.room (c.open-tree.ensures.valid _ _) c.open-tree.ensures.table (c.open-tree.ensures.opened c.new.result _ c.new.ensures.lanes) c.new-2.ensures
    c.args.events.now c.play.new.self c.finish.new.self c.new-listing.result c.play.new.listing c.finish.new.listing c.new-listing.ensures.empty c.play.ensures c.finish.ensures in
    not_some (sym rests.free ∙ c.in-Some.is)

pub returns : goal.returns
returns g c =
    let (h, (bs, rests, holds)) = plays_out g.I.Item g.S.Server g.I.OfCost.item c.args.draft (min (length c.args.places.now) 256) c.open-tree.result c.args.link c.new-2.result c.new.result
    c.new.ensures.room (c.open-tree.ensures.valid _ _) c.open-tree.ensures.table (c.open-tree.ensures.opened c.new.result _ c.new.ensures.lanes) c.new-2.ensures
    c.args.events.now c.play.new.self c.finish.new.self c.new-listing.result c.play.new.listing c.finish.new.listing c.new-listing.ensures.empty c.play.ensures c.finish.ensures in
    written_out (Lists g.I.Item g.S.Server g.I.OfCost.item (min (length c.args.places.now) 256) c.args.draft c.args.link c.args.events.now) c.tell_charges.new.listing _ (c.tell_charges.ensures bs holds)
    (lists g.I.Item g.S.Server g.I.OfCost.item (laws_met g.met.I.Item) c.args.draft (min (length c.args.places.now) 256) rests) c.finish-in-None.result c.finish-in-None.ensures
