use Rattle.std.proofs.Common.{sym}
use Rattle.plans.proofs.Lexed.{letter_cut}
use Rattle.plans.proofs.lex.line.Goals as goal

pub returns-in_err-letter : goal.returns-in_err-letter
returns-in_err-letter c =
    let parts = c.in_ok-word.ensures in
    rw c.from_residual-in_err-letter.ensures
    (λ l p e. c.in_err-letter.ensures _ (sym (letter_cut _ _ _ parts.0 parts.1 l e).0))
