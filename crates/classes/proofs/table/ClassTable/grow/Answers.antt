use Rattle.std.proofs.Common.{sym, ap, ◌∙◌, subst, Some}
use Rattle.classes.specs.WellFormed.{WellFormed}
use Rattle.classes.proofs.Growth.{well_formed, is_grown, written}
use Rattle.classes.proofs.table.ClassTable.grow.Goals as goal

pub invariant_of-self-clause-well_formed : goal.invariant_of-self-clause-well_formed
invariant_of-self-clause-well_formed c =
    let t = c.args.self.now in
    let p = c.args.parent in
    let is = written t p c.args.weight c.args.name c.requires.known _ _ _ _ _ c.deref_mut.ensures.value (c.replace.ensures.after ∙ ap Some c.len-number.ensures.value) c.replace.ensures.value c.push.ensures.items in
    subst WellFormed (sym is) (well_formed t p c.args.weight c.args.name c.requires.known c.requires.shallow c.requires.fresh)

pub returns-clause-grown : goal.returns-clause-grown
returns-clause-grown c =
    let t = c.args.self.now in
    let p = c.args.parent in
    is_grown t p c.args.weight c.args.name c.requires.known _
    (written t p c.args.weight c.args.name c.requires.known _ _ _ _ _ c.deref_mut.ensures.value (c.replace.ensures.after ∙ ap Some c.len-number.ensures.value) c.replace.ensures.value c.push.ensures.items)
