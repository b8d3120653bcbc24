-- The kind's laws are the trait's. Assumes nothing.
use Rattle.rules.proofs.laws_last.Goals as goal
use Rattle.rules.proofs.Bounds.{laws_met}
use Rattle.rules.proofs.Lawful.{onward}

pub returns : goal.returns
returns g c = onward (laws_met g.met.I.Item)
