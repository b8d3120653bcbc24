use Rattle.std.proofs.Common.{sym}
use Rattle.shelf.proofs.Walks.{length_walk}
use Rattle.shelf.proofs.table.LinkTable.free.Goals as goal

pub returns : goal.returns
returns c = sym (length_walk _ _ _)
