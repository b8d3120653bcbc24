-- How a fault of an input is told.
use Rattle.std.specs.Prelude.{ℕ, List, ◌++◌, codes, decimal}
use Rattle.base.specs.Numbers.{message}
use Rattle.plans.specs.declared.fault.Fault.{Fault}
use Rattle.plans.specs.declared.fault.Wrong.{Wrong}
use Rattle.plans.specs.declared.fault.Wrong.TheVariants.{Refused, NoRate, NoItem}

abbrev pub wrong_text : Wrong → List ℕ
wrong_text (Refused e) = message e
wrong_text NoRate = codes "the rate is missing"
wrong_text NoItem = codes "the item is missing"

-- `line 3: the rate is not from 1 to 65535`
abbrev pub fault_text : Fault → List ℕ
fault_text x = codes "line " ++ (decimal x.line ++ (codes ": " ++ wrong_text x.wrong))
