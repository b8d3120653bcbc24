-- A reader that goes over an input line by line.
use Rattle.std.proofs.Common.{◌≡◌, ℕ, ◌+◌, ◌<◌, ◌≤◌, List, [], ◌∷◌, ◌++◌, length, Some, Ok, Err, Result, sym, refl, ap, ◌∙◌, subst, append_assoc, arith, length-append}
use Rattle.links.specs.Listed.{listed}
use Rattle.base.specs.declared.refusal.Refusal.{Refusal}
use Rattle.base.specs.declared.refusal.Refusal.TheVariants.{BadLine}
use Rattle.std.proofs.ByRecursion.{All-push}
use Rattle.std.proofs.lemmas.List.{flat_map_more, length_push, nil_from_length}
use Rattle.plans.specs.declared.fault.Wrong.{Wrong}
use Rattle.plans.specs.declared.fault.Wrong.TheVariants.{Refused}
use Rattle.plans.specs.declared.line.Line.{Line}
use Rattle.plans.specs.declared.read.Plan.{Plan}
use Rattle.plans.specs.declared.stage.Stage.{Stage}
use Rattle.plans.specs.Inputs.{Begins, Planned, Told, misformed, refused, unfinished, at_line, ended, missing, next, onward}
use Rattle.plans.specs.Lines.{Misformed, Proper, written}
use Rattle.plans.specs.Links.{New}
use Rattle.plans.specs.Readings.{Reading, complete, taken}
use Rattle.plans.specs.Stages.{reading}

-- some lines are read, and the stage is what they set up
pub record Sofar (bs : List ℕ) (stage : Stage) (number : ℕ) (rest : List ℕ) : Type 0 where
  pub lines : List Line
  pub begins : Begins bs lines (reading stage) rest
  pub count : number ≡ length lines + 1
  pub near : number + length rest ≤ length bs + 1

onward_more : (r : Result Reading Refusal) (ls : List Line) (l : Line) → onward r (ls ++ l ∷ []) ≡ next (onward r ls) l
onward_more r [] l = refl
onward_more r (m ∷ ls) l = onward_more (next r m) ls l

-- a line that is taken
begins_more : (bs : List ℕ) (ls : List Line) (q p : Reading) (l : Line) (rest more : List ℕ) → Begins bs ls q rest → rest ≡ written l ++ 10 ∷ more → Proper l → taken q l ≡ Ok p → Begins bs (ls ++ l ∷ []) p more
begins_more bs ls q p l rest more old cut proper took =
    record {
      proper = All-push Proper ls l old.proper proper;
      whole =
          ap (λ z. z ++ more) (sym (flat_map_more (λ m. written m ++ 10 ∷ []) [] ls l))
          ∙ append_assoc (ended ls) (written l ++ 10 ∷ []) more
          ∙ ap (λ z. ended ls ++ z) (append_assoc (written l) (10 ∷ []) more ∙ sym cut)
          ∙ old.whole;
      stands = onward_more _ ls l ∙ ap (λ r. next r l) old.stands ∙ took;
    }

pub one_more : (bs : List ℕ) (s t : Stage) (number : ℕ) (l : Line) (rest more : List ℕ) → Sofar bs s number rest → rest ≡ written l ++ 10 ∷ more → Proper l → taken (reading s) l ≡ Ok (reading t) → Sofar bs t (number + 1) more
one_more bs s t number l rest more old cut proper took =
    let near = old.near in
    record {
      lines = old.lines ++ l ∷ [];
      begins = begins_more bs old.lines (reading s) (reading t) l rest more old.begins cut proper took;
      count = omega (arith, length_push old.lines l, old.count);
      near = omega (arith, ap length cut ∙ length-append (written l) (10 ∷ more));
    }

-- what is told of the line behind those that are read
module _ (bs : List ℕ) (stage : Stage) (number : ℕ) (rest : List ℕ) (sofar : Sofar bs stage number rest) where
  told : (w : Wrong) → Told bs (at_line sofar.lines w) → Told bs (record { line = number; wrong = w })
  told w = subst (λ n. Told bs (record { line = n; wrong = w })) (sym sofar.count)

  pub told_misformed : 0 < length rest → Misformed rest → Told bs (record { line = number; wrong = Refused BadLine })
  told_misformed some none = told _ (misformed sofar.lines (reading stage) rest sofar.begins some none)

  pub told_refused : (l : Line) (more : List ℕ) (e : Refusal) → rest ≡ written l ++ 10 ∷ more → Proper l → taken (reading stage) l ≡ Err e → Told bs (record { line = number; wrong = Refused e })
  told_refused l more e cut proper refusal =
      told _ (refused sofar.lines (reading stage) l more e (subst (Begins bs sofar.lines (reading stage)) cut sofar.begins) proper refusal)

  at_end : length rest ≡ 0 → Begins bs sofar.lines (reading stage) []
  at_end none = subst (Begins bs sofar.lines (reading stage)) (nil_from_length rest none) sofar.begins

  pub told_unfinished : (w : Wrong) → length rest ≡ 0 → missing (reading stage) ≡ Some w → Told bs (record { line = number; wrong = w })
  told_unfinished w none lacks = told w (unfinished sofar.lines (reading stage) w (at_end none) lacks)

  pub planned : (p : Plan) → length rest ≡ 0 → reading stage ≡ complete p.link.below.rate (listed p.link.outages) p.cost → New p.link → Planned bs p
  planned p none is new = (sofar.lines, subst (λ q. Begins bs sofar.lines q []) is (at_end none), new)
