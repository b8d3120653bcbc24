-- Behind the letter o: no space, no number before it, no number behind it.
use Rattle.std.proofs.Common.{sym, ◌∙◌, subst}
use Rattle.text.specs.Words.{Free, numeral}
use Rattle.plans.proofs.Lexed.{both_cut, not_free, only_outage}
use Rattle.plans.proofs.lex.form.Goals as goal

pub returns-in_err-offset-in-o : goal.returns-in_err-offset-in-o
returns-in_err-offset-in-o c =
    rw c.from_residual-in_err-offset-in-o.ensures
    (only_outage _ _ c.in-o.is (λ o n ho hn e. not_free 32 (numeral o) (numeral n) (subst (Free 32) (sym e) c.in_err-offset-in-o.ensures)))

pub returns-in_err-number-in-o : goal.returns-in_err-number-in-o
returns-in_err-number-in-o c =
    let parts = c.in_ok-offset-in-o.ensures in
    rw c.from_residual-in_err-number-in-o.ensures
    (only_outage _ _ c.in-o.is (λ o n ho hn e. c.in_err-number-in-o.ensures o ho (both_cut _ _ o n ho parts.0 (e ∙ parts.1)).0))

pub returns-in_err-number-in-o-2 : goal.returns-in_err-number-in-o-2
returns-in_err-number-in-o-2 c =
    let parts = c.in_ok-offset-in-o.ensures in
    rw c.from_residual-in_err-number-in-o-2.ensures
    (only_outage _ _ c.in-o.is (λ o n ho hn e. c.in_err-number-in-o-2.ensures n hn (both_cut _ _ o n ho parts.0 (e ∙ parts.1)).1))
