-- Both are computed. Assumes nothing.
use Rattle.std.proofs.Common.{refl}
use Rattle.rules.specs.Shape.{under}
use Rattle.rules.specs.State.{picked, stored}
use Rattle.rules.proofs.figures_stand.Goals as goal

pub returns : goal.returns
unfolding under picked stored
returns c = record { figures = refl; example = refl }
