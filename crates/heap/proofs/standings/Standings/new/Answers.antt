use Rattle.std.proofs.Common.{replicate, inl, inr}
use Rattle.std.proofs.lemmas.Bool.{cases_lt}
use Rattle.std.proofs.lemmas.List.{get_or-replicate, get_or_past}
use Rattle.heap.specs.Index.{nowhere}
use Rattle.heap.proofs.standings.Standings.new.Goals as goal

pub returns : goal.returns
returns c = λ k. elim (cases_lt k 64) [
  | inl known ↦ get_or-replicate 64 k nowhere nowhere known
  | inr past ↦ get_or_past (replicate 64 nowhere) k nowhere past
]
