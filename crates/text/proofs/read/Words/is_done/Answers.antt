use Rattle.text.proofs.Splits.{done_told}
use Rattle.text.proofs.read.Words.is_done.Goals as goal

pub returns : goal.returns
returns c = done_told c.args.self.now.rest _ c.is_none.ensures
