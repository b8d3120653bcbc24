use Rattle.std.proofs.Common.{◌<◌, length, sym, arith}
use Rattle.shelf.proofs.Items.{head_lane}
use Rattle.shelf.proofs.shelf.Shelf.head.Goals as goal

pub returns : goal.returns
returns g c =
    let s = c.args.self.now in
    let f = s.fits in
    let l : c.in_ok-place.place < length s.places.now = omega (arith, c.in_ok-place.ensures.within) in
    sym (head_lane s.places.now s.table f c.args.lane c.in_ok-place.place c.index-self-place.result l (sym c.in_ok-place.ensures.value))
