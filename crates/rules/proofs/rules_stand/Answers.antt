-- Neither rests on a law of the kind. Assumes nothing.
use Rattle.rules.proofs.rules_stand.Goals as goal
use Rattle.rules.proofs.Calls.{accepts}
use Rattle.rules.proofs.Lawful.{picked_chosen}

pub returns : goal.returns
returns g c = record { picks = picked_chosen g.I.Item; accepts = accepts g.I.Item }
