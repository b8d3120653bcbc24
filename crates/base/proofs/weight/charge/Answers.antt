use Rattle.std.proofs.Common.{◌≡◌, ◌*◌, ◌/◌, ap, ◌∙◌, rules}
use Rattle.base.proofs.Exact.{exact}
use Rattle.base.specs.Charge.{charged}
use Rattle.base.proofs.weight.charge.Goals as goal

pub returns : goal.returns
returns c =
    let e = exact c.args.done.0 c.args.weight.value c.args.weight.least c.args.weight.most in
    let p : c.get-2.result * (720720 / c.get.result) ≡ charged c.args.done.0 c.args.weight.value = ap (λ n. n * (720720 / c.get.result)) c.get-2.ensures ∙ ap (λ n. c.args.done.0 * (720720 / n)) c.get.ensures.value ∙ e in
    let h = rw p at c.checked_mul.ensures in
    search rules
