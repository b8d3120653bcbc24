-- The line that an event writes.
use Rattle.std.specs.Prelude.{ℕ, cond, List, [], ◌∷◌, ◌++◌, codes, decimal, ◌==◌}
use Rattle.std.proofs.Math.Utf8.{encode}
use Rattle.base.specs.Numbers.{number}
use Rattle.classes.specs.declared.table.ClassTable.{ClassTable}
use Rattle.classes.specs.Tables.{name_of}
use Rattle.rules.specs.Rules.{Answer, refused, accepted, granted, worked, closed}
use Rattle.text.specs.declared.line.Event.{Event}
use Rattle.text.specs.declared.line.Event.TheVariants.{Submit, Dispatch, Pulse, End, GiveUp}

-- the letter of an event: a, d, p, e, g
abbrev pub letter : Event → ℕ
letter (Submit name cost) = 97
letter Dispatch = 100
letter Pulse = 112
letter End = 101
letter GiveUp = 103

-- the start tag that is told of a class: 0 of the root
abbrev pub told_start : (ℕ → ℕ) → ℕ → ℕ
told_start start k = cond (k == 0) 0 (start k)

-- what stands behind the letter: the number of a refusal, or 0; then the name, the cost and the start tag of the leaf that is served, or the
-- work of a pulse, or the charge of a closing
abbrev pub told : ClassTable → (ℕ → ℕ) → Answer → List ℕ
told t start (refused e) = codes " " ++ decimal (number e)
told t start accepted = codes " 0"
told t start (granted g k cost) = codes " 0 " ++ (name_of t k ++ (codes " " ++ (decimal cost ++ (codes " " ++ decimal (told_start start k)))))
told t start (worked d) = codes " 0 " ++ decimal d
told t start (closed d) = codes " 0 " ++ decimal d

-- the line, with its line end
abbrev pub line : ClassTable → (ℕ → ℕ) → Event → Answer → List ℕ
line t start e a = (encode (letter e) ++ told t start a) ++ 10 ∷ []
