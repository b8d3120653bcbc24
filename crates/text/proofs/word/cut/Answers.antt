use Rattle.std.proofs.Common.{◌≡◌, ◌==◌, sym, ◌∙◌, rules, tests}
use Rattle.std.specs.List.{position}
use Rattle.std.proofs.lemmas.Iterator.{YieldsList-from_slice}
use Rattle.std.proofs.lemmas.Iterator.Search.{position_from_yields_List}
use Rattle.text.proofs.Cuts.{found}
use Rattle.text.proofs.word.cut.Goals as goal

pub returns : goal.returns
returns c =
    let first : c.position.result ≡ position (λ b. b == c.args.at) c.args.bytes.now =
    position_from_yields_List (λ b. b == c.args.at) _ _ _ c.position.ensures.ran (YieldsList-from_slice c.args.bytes.now cc) (λ x b q k. search (rules, tests)) in
    found c.args.bytes.now c.in_ok-i.i c.args.at (sym first ∙ c.in_ok-i.was)
