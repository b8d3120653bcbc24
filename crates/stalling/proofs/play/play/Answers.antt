-- A draw more.
use Rattle.std.proofs.Common.{◌≡◌, ◌+◌, ◌≤◌, cond, eqb, List, is_ok, ap, ◌∙◌, arith}
use Rattle.std.proofs.lemmas.Bool.{cond-true}
use Rattle.std.proofs.lemmas.Bool.Decides.{nat_tests}
use Rattle.stalling.specs.declared.draw.Draw.{Draw}
use Rattle.stalling.proofs.Played.{sofar_more}
use Rattle.stalling.proofs.play.play.Goals as goal
use Rattle.stalling.proofs.play.play.Goals.{then-done-eq0, else-done-eq0}

pub loop-number-preserved : goal.loop-number-preserved
loop-number-preserved g c =
    let within : c.draw-done.result ≤ c.loop-number.left = g.met.S.Server.within _ _ _ _ c.draw-done.ensures in
    let items = c.push.ensures.items ∙ cond-true {A = List Draw} _ _ _ (ap is_ok c.in_ok-push.was) in
    let idled : c.if-done-eq0.idle ≡ c.loop-number.idle + cond (eqb c.draw-done.result 0) 1 0 =
    elim c.if-done-eq0.branch [ then-done-eq0 w ↦ grind (arith, nat_tests, w.idle-is) | else-done-eq0 w ↦ grind (arith, nat_tests, w.idle-is) ] in
    sofar_more _ _ _ _ _ _ _ _ c.loop-number.invariant (omega arith) _ _ within c.draw-done.ensures _ idled _ items
