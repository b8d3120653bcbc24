use Rattle.std.proofs.Common.{arith}
use Rattle.classes.specs.Tables.{shape_of}
use Rattle.classes.proofs.Shapes.{leaf_is}
use Rattle.classes.proofs.table.ClassTable.is_leaf.Goals as goal

pub returns : goal.returns
returns c = let e = leaf_is (shape_of c.args.self.now) c.args.number in grind arith
