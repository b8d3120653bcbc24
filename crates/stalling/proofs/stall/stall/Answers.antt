-- The listing tells the item's timetable; the fault line tells the first fault.
use Rattle.std.proofs.Common.{◌≤◌, sym, subst, rules}
use Rattle.std.proofs.lemmas.Result.{IfOk-weaker}
use Rattle.stalling.specs.Listings.{Prints, faulty}
use Rattle.stalling.proofs.Printed.{prints_run}
use Rattle.stalling.proofs.stall.stall.Goals as goal

pub returns-in_ok-play-in-Ok : goal.returns-in_ok-play-in-Ok
returns-in_ok-play-in-Ok c =
    let small : c.in-Ok.plan.cost ≤ 4294967295 = search rules in
    IfOk-weaker _ _ _ (λ out wrote. prints_run _ _ _ _ _ c.in-Ok.ensures small c.in_ok-play-in-Ok.ensures wrote) c.listing.ensures

pub returns-in-Err : goal.returns-in-Err
returns-in-Err c = IfOk-weaker _ _ _ (λ out wrote. subst (Prints _) (sym wrote) (faulty c.in-Err.fault c.in-Err.ensures)) c.format.ensures.ok
