use Rattle.std.proofs.Common.{sym, ◌∙◌, arith}
use Rattle.classes.proofs.Plain.{name_utf8}
use Rattle.classes.proofs.name.Name.new.Goals as goal

pub unwrap-requires : goal.unwrap-requires
unwrap-requires c =
    let text = name_utf8 c.args.text.now (sym c.is_word.ensures ∙ c.if-not-is_word.false) in
    grind arith
