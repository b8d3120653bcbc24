use Rattle.std.proofs.Common.{arith}
use Rattle.shelf.proofs.Lines.{released}
use Rattle.shelf.proofs.table.LinkTable.release.Goals as goal

pub returns-clause-after : goal.returns-clause-after
returns-clause-after c = released c.args.self.now c.pass.new.self c.args.lane c.pass.result (omega arith) c.pass.ensures.value c.pass.ensures.after
