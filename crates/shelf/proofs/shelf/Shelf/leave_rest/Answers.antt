use Rattle.std.proofs.Common.{◌≡◌, ℕ, ◌<◌, true, false, cond, ◌&&◌, eqb, ltb, length, get_or, set, Some, sym, refl, ap, ◌∙◌, arith}
use Rattle.std.proofs.lemmas.List.{drop-set-lt}
use Rattle.std.proofs.lemmas.Bool.{and_parts, ltb-true, cond-true, cond-false}
use Rattle.shelf.specs.Chains.{first}
use Rattle.shelf.specs.Lanes.{lanes, headed}
use Rattle.shelf.specs.Places.{lanes_of}
use Rattle.shelf.proofs.Items.{head_lane, replace_lane}
use Rattle.shelf.proofs.Prices.{rest_first, rest_priced}
use Rattle.shelf.proofs.shelf.Shelf.leave_rest.Goals as goal
use Rattle.shelf.proofs.shelf.Shelf.leave_rest.Goals.{After-index-self-place, After-rest-rest}

inside : (g : _) (c : After-index-self-place g) → c.in_ok-place.place < length c.args.self.now.places.now
inside g c = let f = c.args.self.now.fits in omega (arith, c.in_ok-place.ensures.within)

head_is : (g : _) (c : After-index-self-place g) → first (lanes c.args.self.now c.args.lane) ≡ Some (get_or c.args.self.now.places.now c.in_ok-place.place c.index-self-place.result)
head_is g c =
    let s = c.args.self.now in
    head_lane s.places.now s.table s.fits c.args.lane c.in_ok-place.place c.index-self-place.result (inside g c) (sym c.in_ok-place.ensures.value)

pub returns-then-not-stops_early-clause-value : goal.returns-then-not-stops_early-clause-value
returns-then-not-stops_early-clause-value g c =
    let s = c.args.self.now in
    let d = c.args.done in
    let x = get_or s.places.now c.in_ok-place.place c.index-self-place.result in
    let K = g.I.Item in
    let late : (ltb d (K.costs x) && K.stops x d) ≡ false = sym c.if-not-stops_early.ensures in
    sym (rest_first K.costs K.stops K.left (lanes s c.args.lane) x d (head_is g (goal.at.returns-then-not-stops_early-clause-value g c).After-index-self-place) ∙ cond-false _ _ _ late)

-- the item that was read may stop there, with some of its cost to go
early : (g : _) (c : After-rest-rest g) → (ltb c.args.done (g.I.Item.costs (get_or c.args.self.now.places.now c.in_ok-place.place c.index-self-place.result)) && g.I.Item.stops (get_or c.args.self.now.places.now c.in_ok-place.place c.index-self-place.result) c.args.done) ≡ true
early g c = sym c.if-not-stops_early.ensures

lanes_after : (g : _) (c : After-rest-rest g) (j : ℕ) →
    lanes_of (set c.args.self.now.places.now c.in_ok-place.place c.rest-rest.result) c.args.self.now.table j ≡ cond (eqb j c.args.lane) (headed (Some c.rest-rest.result) (lanes c.args.self.now j)) (lanes c.args.self.now j)
lanes_after g c =
    let s = c.args.self.now in
    let l : c.in_ok-place.place < length s.places.now = let f = s.fits in omega (arith, c.in_ok-place.ensures.within) in
    replace_lane s.places.now s.table s.fits c.args.lane c.in_ok-place.place c.rest-rest.result l (sym c.in_ok-place.ensures.value)

pub invariant_of-self-clause-priced : goal.invariant_of-self-clause-priced
invariant_of-self-clause-priced g c =
    let s = c.args.self.now in
    let d = c.args.done in
    let x = get_or s.places.now c.in_ok-place.place c.index-self-place.result in
    let K = g.I.Item in
    let at = goal.at.invariant_of-self-clause-priced g c in
    let both = and_parts (ltb d (K.costs x)) (K.stops x d) (early g at.After-rest-rest) in
    let less = ltb-true d (K.costs x) both.0 in
    rest_priced K.costs (lanes s) _ c.args.lane s.priced x c.rest-rest.result d (head_is g at.After-index-self-place) less (ap K.costs c.rest-rest.ensures ∙ g.met.I.Item.left_costs x d less both.1) (lanes_after g at.After-rest-rest)

pub returns-clause-value : goal.returns-clause-value
returns-clause-value g c =
    let s = c.args.self.now in
    let d = c.args.done in
    let x = get_or s.places.now c.in_ok-place.place c.index-self-place.result in
    let K = g.I.Item in
    let at = goal.at.returns-clause-value g c in
    ap Some c.rest-rest.ensures ∙ sym (rest_first K.costs K.stops K.left (lanes s c.args.lane) x d (head_is g at.After-index-self-place) ∙ cond-true _ _ _ (early g at.After-rest-rest))

pub returns-clause-lanes : goal.returns-clause-lanes
returns-clause-lanes g c = lanes_after g (goal.at.returns-clause-lanes g c).After-rest-rest

pub returns-clause-lender : goal.returns-clause-lender
returns-clause-lender g c =
    let s = c.args.self.now in
    (refl, drop-set-lt 256 s.places.now c.in_ok-place.place c.rest-rest.result (omega (arith, c.in_ok-place.ensures.within, s.table.all.0)))
