-- A number above 63 is past the table.
use Rattle.std.proofs.Common.{sym, ap, arith}
use Rattle.std.proofs.lemmas.List.{get_or_past}
use Rattle.play.proofs.charges.Charges.of.Goals as goal

pub returns-then-class-ge64 : goal.returns-then-class-ge64
returns-then-class-ge64 c = sym (ap (λ x. x.0) (get_or_past c.args.self.now.units c.args.class (record { 0 = 0 }) (omega (arith, c.args.self.now.size))))
