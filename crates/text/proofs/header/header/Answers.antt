use Rattle.std.proofs.lemmas.Result.{err_from_is_err_and}
use Rattle.text.proofs.Ends.{no_title}
use Rattle.text.proofs.header.header.Goals as goal

pub returns-in_err-try_from : goal.returns-in_err-try_from
returns-in_err-try_from c =
    let p = err_from_is_err_and c.from_residual-in_err-try_from.result c.from_residual-in_err-try_from.ensures.1 in
    let parts = rw c.in_ok-line.ensures.ok_part at c.cut.ensures in
    let other = c.in_err-try_from.ensures in
    rw (p.1, p.2) (other.0, no_title _ _ _ parts.0 parts.1 other.1)
