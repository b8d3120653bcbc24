-- The kind's laws are the trait's. Assumes nothing.
use Rattle.rules.proofs.laws_stand.Goals as goal
use Rattle.rules.proofs.Bounds.{laws_met}
use Rattle.rules.proofs.Lawful.{lawful}

pub returns : goal.returns
returns g c = lawful (laws_met g.met.I.Item)
