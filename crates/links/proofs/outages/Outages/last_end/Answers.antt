-- The order of the outages bounds the last one's end, which is read at its place.
use Rattle.std.proofs.Common.{◌≡◌, MatchOption, arith, rules, lit≤}
use Rattle.links.specs.Outages.{ending, last_end}
use Rattle.links.specs.Listed.{listed}
use Rattle.links.proofs.Order.{last_at, last_within}
use Rattle.links.proofs.outages.Outages.last_end.Goals as goal

pub map_or-requires : goal.map_or-requires
map_or-requires c = λ x is l w f a b.
    let here = rw is at (last_at (listed c.args.self.now) _ _ c.deref.ensures.0 c.last.ensures.item.3) in
    let within = last_within 0 (listed c.args.self.now) (lit≤ tt) c.args.self.now.sorted in
    omega (arith, here, within)

pub returns : goal.returns
returns c =
    let here : MatchOption c.last.result (last_end 0 (listed c.args.self.now) ≡ 0) (λ x. last_end 0 (listed c.args.self.now) ≡ ending x.now) =
    last_at _ _ _ c.deref.ensures.0 c.last.ensures.item.3 in
    search rules
