use Rattle.std.proofs.Common.{length}
use Rattle.plans.proofs.Reading.{Sofar}
use Rattle.plans.proofs.read.read.Given as goal

abbrev pub invariant-loop-rest : goal.invariant-loop-rest
invariant-loop-rest l = Sofar l.input l.stage l.number l.rest

abbrev pub decreases-loop-rest : goal.decreases-loop-rest
decreases-loop-rest l = length l.rest
