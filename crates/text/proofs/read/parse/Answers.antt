use Rattle.text.proofs.Forms.{lettered, no_form, ended}
use Rattle.text.proofs.read.parse.Goals as goal

pub returns-in_err-line : goal.returns-in_err-line
returns-in_err-line c =
    let cut = lettered c.args.bytes.now _ _ _ _ c.new-words.ensures c.in_ok-next.ensures.steps c.in_ok-letter.ensures in
    rw c.from_residual-in_err-line.ensures (no_form c.args.bytes.now _ _ cut c.in_err-line.ensures)

pub returns : goal.returns
returns c =
    let cut = lettered c.args.bytes.now _ _ _ _ c.new-words.ensures c.in_ok-next.ensures.steps c.in_ok-letter.ensures in
    let got = c.in_ok-line.ensures in
    ended c.args.bytes.now _ _ cut c.in_ok-line.line _ _ _ got.0 got.1 got.2 c.is_done.ensures c.then_some.ensures
