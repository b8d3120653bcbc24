use Rattle.std.proofs.Common.{◌≡◌, ◌≤◌, length, rules, arith, tests}
use Rattle.std.specs.List.{list_all}
use Rattle.std.proofs.lemmas.Iterator.{YieldsList-from_slice}
use Rattle.std.proofs.lemmas.Iterator.Search.{all_from_yields_List}
use Rattle.base.specs.Words.{plain}
use Rattle.base.proofs.words.is_word.Goals as goal

pub returns-then-contains : goal.returns-then-contains
returns-then-contains g c =
    let all : c.all.result ≡ list_all plain c.args.bytes.now =
    all_from_yields_List plain _ _ _ c.all.ensures.ran (YieldsList-from_slice c.args.bytes.now cc) (λ x b q k. search (rules, tests)) in
    let range : (1 ≤ length c.args.bytes.now) × (length c.args.bytes.now ≤ g.row.MOST) = search rules in
    grind arith
