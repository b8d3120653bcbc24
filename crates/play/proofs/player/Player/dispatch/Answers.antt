use Rattle.std.proofs.Common.{Some, sym, refl}
use Rattle.rules.specs.Rules.{dispatch}
use Rattle.text.specs.declared.line.Event.TheVariants.{Dispatch}
use Rattle.tree.specs.Answers.{grant_of}
use Rattle.classes.specs.Tables.{class_count}
use Rattle.play.proofs.Onward.{granted_on, refused_on, no_dispatch, handed_on}
use Rattle.play.proofs.Readings.{name_is, start_is}
use Rattle.play.proofs.Turns.{is_held}
use Rattle.play.proofs.player.Player.dispatch.Goals as goal

pub returns-then-is_some : goal.returns-then-is_some
returns-then-is_some g c = λ t o first es h bs f.
    let (u, is) = is_held c.args.self.now.held (sym c.if-is_some.ensures) in
    no_dispatch g.I.Item g.S.Server g.I.OfCost.item f u is

pub returns-in_err-grant : goal.returns-in_err-grant
returns-in_err-grant g c = λ t o first es h bs f.
    let told = c.in_err-grant.ensures in
    handed_on g.I.Item g.S.Server g.I.OfCost.item f Dispatch c.in_err-grant.field-0.0 c.from_residual.result c.from_residual.ensures.1
    (refused_on g.I.Item g.S.Server g.I.OfCost.item f _ Dispatch dispatch refl c.in_err-grant.field-0.0 told.table (told.steps _) refl f.turn refl)

pub returns : goal.returns
returns g c = λ t o first es h bs f.
    let told = c.in_ok-grant.ensures in
    let p = c.args.self.now in
    let d = c.in_ok-grant.field-0 in
    let tree = c.dispatch.new.self in
    granted_on g.I.Item g.S.Server g.I.OfCost.item f
    (record { tree = tree; shelf = p.shelf; link = p.link; held = Some (record { grant = d.grant; class = d.class }); charges = p.charges }) (grant_of d.grant) d.class d.cost c.unwrap_or.result c.unwrap_or-2.result
    told.table (told.steps (g.S.Server.work p.link)) refl (refl, refl) refl
    (name_is tree.queue.table d.class c.name.result c.unwrap_or.result _ c.name.ensures c.unwrap_or.ensures)
    (start_is d.class (class_count tree.queue.table) _ _ _ c.unwrap_or-2.result c.start_tag.result c.start_tag.ensures.value c.start_tag.ensures.root refl c.unwrap_or-2.ensures)
