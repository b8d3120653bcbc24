-- One pulse more. Assumes nothing.
use Rattle.sharing.proofs.turn.pulses.Goals as goal

pub loop-preserved : goal.loop-preserved
loop-preserved g c = λ sh r.
    let (ready, serves) = c.loop.invariant sh r in
    let (still, more) = c.pulse-left.ensures sh ready in
    (still, λ b v. more b (serves b v))
