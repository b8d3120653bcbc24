use Rattle.tree.proofs.Descending.{left_all, left_more, left_none}
use Rattle.tree.proofs.queue.Queue.descend.Goals as goal

pub loop-init : goal.loop-init
loop-init g c = (c.requires, left_all (g.T.TagStore.held c.args.self.now.store) c.args.from)

pub loop-preserved : goal.loop-preserved
loop-preserved g c = (
  c.in-Some.ensures.looks.known,
  left_more (g.T.TagStore.held c.args.self.now.store) c.args.from c.loop.node c.loop.counter c.in-Some.child c.in-Some.field-0-1 c.loop-test.true c.in-Some.ensures.value c.loop.invariant.1,
)

pub returns-in_default-clause-value : goal.returns-in_default-clause-value
returns-in_default-clause-value g c = left_none (g.T.TagStore.held c.args.self.now.store) c.args.from c.loop.node c.loop.counter c.in_default.ensures.value c.loop.invariant.1
