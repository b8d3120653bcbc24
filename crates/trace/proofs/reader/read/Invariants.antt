use Rattle.std.proofs.Common.{vec_items}
use Rattle.text.specs.Texts.{rest}
use Rattle.trace.proofs.Sofar.{Sofar}
use Rattle.trace.proofs.reader.read.Given as goal

abbrev pub invariant-loop-line : goal.invariant-loop-line
invariant-loop-line l = Sofar l.text l.kind (rest l.line-iterator) l.number l.reading (vec_items l.events)
