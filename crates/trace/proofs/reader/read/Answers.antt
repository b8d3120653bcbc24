use Rattle.std.proofs.Common.{◌∷◌, ◌++◌, Ok, refl, ap, ◌∙◌, subst, append-nil}
use Rattle.std.proofs.lemmas.Result.{MatchResult-at_ok, MatchResult-at_err}
use Rattle.text.specs.Kinds.{title}
use Rattle.text.specs.Texts.{rest}
use Rattle.trace.proofs.Exits.{lined, length_told, title_told, exit, exit_wanting}
use Rattle.trace.proofs.Sofar.{Sofar, begun, stepped, wanting, finished}
use Rattle.trace.proofs.reader.read.Goals as goal

pub returns-in_err-on_line : goal.returns-in_err-on_line
returns-in_err-on_line c =
    exit _ _ _ c.from_residual.ensures.1 (MatchResult-at_err _ _ _ c.in_err-on_line.was (lined _ _ 0 _ _ c.on_line.ensures (length_told _ _ c.check_length.ensures)))

pub returns-in_err-kind : goal.returns-in_err-kind
returns-in_err-kind c =
    let short = MatchResult-at_ok _ _ _ c.in_ok-on_line.was (lined _ _ 0 _ _ c.on_line.ensures (length_told _ _ c.check_length.ensures)) in
    exit _ _ _ c.from_residual-in_err-kind.ensures.1 (MatchResult-at_err _ _ _ c.in_err-kind.was (lined _ _ 1 _ _ c.on_line-2.ensures (title_told _ _ short c.title.ensures)))

pub loop-line-init : goal.loop-line-init
loop-line-init c =
    let short = MatchResult-at_ok _ _ _ c.in_ok-on_line.was (lined _ _ 0 _ _ c.on_line.ensures (length_told _ _ c.check_length.ensures)) in
    let whole = MatchResult-at_ok _ _ _ c.in_ok-kind.was (lined _ _ 1 _ _ c.on_line-2.ensures (title_told _ _ short c.title.ensures)) in
    begun _ _ _ _ _ short (ap (λ s. title c.in_ok-kind.kind ++ 10 ∷ rest s) c.into_iter-line-iterator.ensures.into_iter_gives ∙ whole) c.new-reading.ensures c.new-events.ensures.items

pub returns-in_err-event : goal.returns-in_err-event
returns-in_err-event c =
    exit _ _ _ c.from_residual-in_err-event.ensures.1
    (MatchResult-at_err _ _ _ c.in_err-event.was (lined _ _ _ _ _ c.on_line-in-loop-line.ensures (stepped _ _ _ _ _ _ c.loop-line.invariant _ _ _ _ c.in-Some.ensures.steps c.step.ensures)))

-- a line with no event
pub loop-line-preserved-in_default : goal.loop-line-preserved-in_default
loop-line-preserved-in_default c =
    let new = MatchResult-at_ok _ _ _ (c.in_ok-event.was ∙ ap Ok c.in_default.is) (lined _ _ _ _ _ c.on_line-in-loop-line.ensures (stepped _ _ _ _ _ _ c.loop-line.invariant _ _ _ _ c.in-Some.ensures.steps c.step.ensures)) in
    subst (Sofar _ _ _ _ _) (append-nil _) new

-- a line with one
pub loop-line-preserved : goal.loop-line-preserved
loop-line-preserved c =
    rw c.in_ok-push.ensures.items
    (MatchResult-at_ok _ _ _ (c.in_ok-event.was ∙ ap Ok c.in-Some-2.is) (lined _ _ _ _ _ c.on_line-in-loop-line.ensures (stepped _ _ _ _ _ _ c.loop-line.invariant _ _ _ _ c.in-Some.ensures.steps c.step.ensures)))

pub returns-in_err-push : goal.returns-in_err-push
returns-in_err-push c =
    exit_wanting _ _ c.from_residual-in_err-push.ensures.1
    (wanting _ _ _ _ _ _ _ (MatchResult-at_ok _ _ _ (c.in_ok-event.was ∙ ap Ok c.in-Some-2.is) (lined _ _ _ _ _ c.on_line-in-loop-line.ensures (stepped _ _ _ _ _ _ c.loop-line.invariant _ _ _ _ c.in-Some.ensures.steps c.step.ensures))))

pub returns-in_err-draft : goal.returns-in_err-draft
returns-in_err-draft c =
    exit _ _ _ c.from_residual-in_err-draft.ensures.1 (MatchResult-at_err _ _ _ c.in_err-draft.was (lined _ _ _ _ _ c.on_line-3.ensures (finished _ _ _ _ _ _ c.loop-line.invariant c.in-None.ensures.steps _ c.finish.ensures)))

pub returns : goal.returns
returns c =
    MatchResult-at_ok _ _ _ c.in_ok-draft.was (lined _ _ _ _ _ c.on_line-3.ensures (finished _ _ _ _ _ _ c.loop-line.invariant c.in-None.ensures.steps _ c.finish.ensures)) _ refl
