use Rattle.std.proofs.Common.{◌≡◌, None, Some, Err, refl, sym, ap, ◌∙◌, subst}
use Rattle.std.specs.Option.{ok_or}
use Rattle.std.specs.Result.{result_ok, result_err}
use Rattle.base.specs.declared.refusal.Refusal.TheVariants.{UnknownClass}
use Rattle.rules.proofs.Tests.{some_same}
use Rattle.rules.specs.Rules.{submit}
use Rattle.text.specs.declared.line.Event.TheVariants.{Submit}
use Rattle.play.proofs.Onward.{Next, accepted_on, refused_on, no_class, handed_on}
use Rattle.play.proofs.Readings.{submits}
use Rattle.play.proofs.player.Player.submit.Goals as goal

pub returns-in_err-class : goal.returns-in_err-class
returns-in_err-class g c = λ t o first es h bs f.
    let e = Submit c.args.name c.args.cost in
    let p = c.args.self.now in
    let none : c.find.result ≡ None = c.ok_or.ensures.ok_part ∙ ap result_ok c.in_err-class.was in
    let unknown : c.in_err-class.field-0.0 ≡ UnknownClass = some_same (ap result_err (sym c.in_err-class.was ∙ c.ok_or.ensures.value ∙ ap (λ x. ok_or x UnknownClass) none)) in
    handed_on g.I.Item g.S.Server g.I.OfCost.item f e c.in_err-class.field-0.0 c.from_residual.result c.from_residual.ensures.1
    (subst (λ n. Next g.I.Item g.S.Server g.I.OfCost.item f e (Err n) p) (sym unknown)
    (no_class g.I.Item g.S.Server g.I.OfCost.item f e _ (submits p.tree.queue.table t None c.as_bytes.result.now c.args.name.now (g.I.OfCost.item c.args.cost) (g.I.OfCost.item c.args.cost) (sym c.find.ensures.value ∙ none) c.as_bytes.ensures.value f.table refl)))

pub returns-in_err-submit : goal.returns-in_err-submit
returns-in_err-submit g c = λ t o first es h bs f.
    let e = Submit c.args.name c.args.cost in
    let class = c.in_ok-class.class in
    let told = c.in_err-submit.ensures in
    let some : c.find.result ≡ Some class = c.ok_or.ensures.ok_part ∙ ap result_ok c.in_ok-class.was in
    handed_on g.I.Item g.S.Server g.I.OfCost.item f e c.in_err-submit.field-0.0 c.from_residual-in_err-submit.result c.from_residual-in_err-submit.ensures.1
    (refused_on g.I.Item g.S.Server g.I.OfCost.item f _ e (submit class c.of_cost.result)
    (submits c.args.self.now.tree.queue.table t (Some class) c.as_bytes.result.now c.args.name.now c.of_cost.result (g.I.OfCost.item c.args.cost) (sym c.find.ensures.value ∙ some) c.as_bytes.ensures.value f.table c.of_cost.ensures)
    c.in_err-submit.field-0.0 told.table (told.steps _) refl f.turn refl)

pub returns : goal.returns
returns g c = λ t o first es h bs f.
    let class = c.in_ok-class.class in
    let told = c.in_ok-submit.ensures in
    let some : c.find.result ≡ Some class = c.ok_or.ensures.ok_part ∙ ap result_ok c.in_ok-class.was in
    accepted_on g.I.Item g.S.Server g.I.OfCost.item f _ (Submit c.args.name c.args.cost) (submit class c.of_cost.result)
    (submits c.args.self.now.tree.queue.table t (Some class) c.as_bytes.result.now c.args.name.now c.of_cost.result (g.I.OfCost.item c.args.cost) (sym c.find.ensures.value ∙ some) c.as_bytes.ensures.value f.table c.of_cost.ensures)
    told.table (told.steps _) refl f.turn refl
