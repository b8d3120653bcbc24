use Rattle.plans.proofs.Lexed.{no_end, no_line}
use Rattle.plans.proofs.lex.first_line.Goals as goal

pub returns-in_err-bytes : goal.returns-in_err-bytes
returns-in_err-bytes c = rw c.from_residual.ensures (no_end _ c.in_err-bytes.ensures)

pub returns-in_err-line : goal.returns-in_err-line
returns-in_err-line c =
    let parts = c.in_ok-bytes.ensures in
    rw c.from_residual-in_err-line.ensures (no_line _ _ _ parts.0 parts.1 c.in_err-line.ensures)
