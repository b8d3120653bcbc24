use Rattle.std.proofs.Common.{sym, ap, ◌∙◌, arith}
use Rattle.shelf.specs.Chains.{first}
use Rattle.shelf.proofs.Lines.{line_in, chain_within}
use Rattle.shelf.proofs.table.LinkTable.head.Goals as goal

pub returns-clause-value : goal.returns-clause-value
returns-clause-value c = c.first.ensures ∙ ap first (sym (line_in c.args.self.now c.args.lane (omega arith)))

pub returns-clause-within : goal.returns-clause-within
returns-clause-within c = chain_within c.args.self.now c.args.lane c.first.result c.first.ensures
