-- What is printed of a run.
use Rattle.std.proofs.Common.{◌≡◌, ℕ, ◌-◌, ◌≤◌, List, ◌++◌, length, vec_items, vec_len, sym, ap, ◌∙◌, subst, arith}
use Rattle.links.specs.Listed.{listed}
use Rattle.links.specs.declared.fixed.FixedLink.{FixedLink}
use Rattle.links.specs.declared.interrupted.Interrupted.{Interrupted}
use Rattle.stalling.specs.declared.play.Run.{Run}
use Rattle.plans.specs.declared.read.Plan.{Plan}
use Rattle.stalling.specs.Draws.{done_by, idle_of}
use Rattle.plans.specs.Inputs.{Planned}
use Rattle.stalling.specs.Listings.{Prints, played, last_line, run_text, told_draws}
use Rattle.stalling.specs.Plays.{Played}
use Rattle.stalling.proofs.Timed.{link_draws, timed}

pub prints_run : (bs : List ℕ) (p : Plan) (r : Run) (t : Interrupted FixedLink) (out : List ℕ) → Planned bs p → p.cost ≤ 4294967295 → Played link_draws p.link p.cost r t → out ≡ run_text r → Prints bs out
prints_run bs p r t out plan small run wrote =
    let xs = vec_items r.draws in
    let new = plan.2 in
    let few = run.stops.0 in
    let times = timed xs p.link t 0 p.cost new.0 (omega arith) (omega (arith, new.1)) run.plays in
    let counts : last_line (vec_len r.draws) r.idle r.left ≡ last_line (length xs) (idle_of xs) (p.cost - done_by xs) = λ i. last_line (r.draws.ok.0 i) (run.idled i) (run.rest i) in
    subst (Prints bs) (sym (wrote ∙ ap (λ line. told_draws xs ++ line) counts))
    (played plan.0 p.link.below.rate (listed p.link.outages) p.cost xs plan.1 times run.stops)
