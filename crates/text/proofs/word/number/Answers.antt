use Rattle.std.proofs.Common.{sym, ◌∙◌, ⊎_elim}
use Rattle.std.proofs.lemmas.Result.{MatchResult-at_ok, MatchResult-at_err}
use Rattle.text.proofs.Numbers.{is_utf8, no_plus, no_zero, reads, read, ok_some, ok_none, ok_not_err}
use Rattle.text.proofs.word.number.Goals as goal

pub returns-in_err-text : goal.returns-in_err-text
returns-in_err-text c =
    rw c.from_residual.ensures (λ n small is.
    let bad = ok_none _ _ c.ok.ensures.value c.in_err-text.was in
    (MatchResult-at_err _ _ bad.0 bad.1 c.from_utf8.ensures.cases).0 (is_utf8 _ n small is))

pub returns-in_err-n : goal.returns-in_err-n
returns-in_err-n c =
    rw c.from_residual-in_err-n.ensures (λ n small is.
    let good = ok_some _ _ _ c.ok.ensures.value c.in_ok-text.was in
    let same = (MatchResult-at_ok _ _ _ good c.from_utf8.ensures.cases).0 in
    let bad = ok_none _ _ c.ok-2.ensures.value c.in_err-n.was in
    ok_not_err _ _ _ (reads _ n small (is ∙ sym same) _ c.parse.ensures.value.0) bad.1)

pub returns-then-bytes-eq43 : goal.returns-then-bytes-eq43
returns-then-bytes-eq43 c = λ n small is. no_plus _ n small is c.if-bytes-eq43.true

pub returns-then-bytes-gt1 : goal.returns-then-bytes-gt1
returns-then-bytes-gt1 c = λ n small is. no_zero _ n small is c.if-bytes-eq48.true c.if-bytes-gt1.true

pub returns : goal.returns
returns c =
    let good = ok_some _ _ _ c.ok.ensures.value c.in_ok-text.was in
    let same = (MatchResult-at_ok _ _ _ good c.from_utf8.ensures.cases).0 in
    let got = ok_some _ _ _ c.ok-2.ensures.value c.in_ok-n.was in
    read c.args.bytes.now _ _ (rw same at c.parse.ensures.value.0) got c.if-bytes-eq43.false (λ z. ⊎_elim (λ h. h.1) (λ h. absurd (h z)) c.else-bytes-eq48.either)
