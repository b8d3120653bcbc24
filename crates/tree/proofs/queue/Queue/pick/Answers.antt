use Rattle.std.proofs.Common.{sym, ◌∙◌}
use Rattle.tree.proofs.Descending.{pick_alone, pick_none, pick_some}
use Rattle.tree.proofs.queue.Queue.pick.Goals as goal

pub returns-then-is_leaf-clause-value : goal.returns-then-is_leaf-clause-value
returns-then-is_leaf-clause-value g c = c.then_some.ensures ∙ pick_alone _ 0 _ _ (sym c.if-is_leaf.ensures)

pub returns-in_err-child-clause-value : goal.returns-in_err-child-clause-value
returns-in_err-child-clause-value g c = c.from_residual.ensures ∙ pick_none _ 0 _ _ (sym c.if-is_leaf.ensures) c.in_err-child.ensures.value

pub returns-clause-value : goal.returns-clause-value
returns-clause-value g c = pick_some _ c.in_ok-child.child _ _ c.in_ok-child.field-0-1 c.descend.result (sym c.if-is_leaf.ensures) c.in_ok-child.ensures.value c.descend.ensures.value
