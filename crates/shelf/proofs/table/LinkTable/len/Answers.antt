use Rattle.std.proofs.Common.{length, sym, ap, ◌∙◌, arith}
use Rattle.shelf.proofs.Lines.{line_in}
use Rattle.shelf.proofs.Walks.{length_walk}
use Rattle.shelf.proofs.table.LinkTable.len.Goals as goal

pub returns : goal.returns
returns c = sym (ap length (line_in c.args.self.now c.args.lane (omega arith)) ∙ length_walk _ _ _)
