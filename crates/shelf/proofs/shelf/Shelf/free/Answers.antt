use Rattle.std.proofs.Common.{◌+◌, ap, ◌∙◌}
use Rattle.shelf.specs.Lanes.{stored}
use Rattle.shelf.proofs.Totals.{stored_free}
use Rattle.shelf.proofs.shelf.Shelf.free.Goals as goal

pub returns-clause-whole : goal.returns-clause-whole
returns-clause-whole g c = ap (λ n. stored c.args.self.now + n) c.free.ensures ∙ stored_free c.args.self.now
