use Rattle.std.proofs.Common.{rules, ◌≡◌, ℕ, cond, eqb, [], ◌∷◌, ◌++◌, set, sym, ◌∙◌, refl, arith}
use Rattle.std.proofs.lemmas.List.{drop-set-lt}
use Rattle.shelf.specs.Places.{lanes_of}
use Rattle.shelf.specs.Tables.{Claimed}
use Rattle.shelf.specs.Lanes.{lanes}
use Rattle.shelf.proofs.Items.{put_lane}
use Rattle.shelf.proofs.Lines.{claimed_first}
use Rattle.shelf.proofs.Prices.{put_priced}
use Rattle.shelf.proofs.shelf.Shelf.put.Goals as goal
use Rattle.shelf.proofs.shelf.Shelf.put.Goals.{After-claim}

-- the place that is claimed is the one that was written
claimed : (g : _) (c : After-claim g) → Claimed c.args.self.now.table c.claim.new.self c.args.lane c.in_ok-place.place
claimed g c =
    let t = c.args.self.now.table in
    claimed_first t c.claim.new.self c.args.lane c.in_ok-place.place c.claim.result (omega arith) (sym c.first_free.ensures.value ∙ c.in_ok-place.ensures.ok_part) c.claim.ensures.value c.claim.ensures.after

lanes_after : (g : _) (c : After-claim g) (j : ℕ) →
    lanes_of (set c.args.self.now.places.now c.in_ok-place.place c.args.item) c.claim.new.self j ≡ cond (eqb j c.args.lane) (lanes c.args.self.now j ++ c.args.item ∷ []) (lanes c.args.self.now j)
lanes_after g c =
    let s = c.args.self.now in
    put_lane s.places.now s.table s.fits c.claim.new.self c.args.lane c.in_ok-place.place c.args.item (claimed g c)

pub invariant_of-self-clause-priced : goal.invariant_of-self-clause-priced
invariant_of-self-clause-priced g c =
    let s = c.args.self.now in
    put_priced g.I.Item.costs (lanes s) _ c.args.lane s.priced c.args.item (search rules) (lanes_after g c)

pub returns-clause-lanes : goal.returns-clause-lanes
returns-clause-lanes g c = lanes_after g (goal.at.returns-clause-lanes g c).After-claim

pub returns-clause-lender : goal.returns-clause-lender
returns-clause-lender g c =
    let s = c.args.self.now in
    (refl, drop-set-lt 256 s.places.now c.in_ok-place.place c.args.item (omega (arith, (claimed g (goal.at.returns-clause-lender g c).After-claim).within, s.table.all.0)))
