use Rattle.std.proofs.Common.{not, ap, ◌∙◌, rules, tests}
use Rattle.std.proofs.lemmas.Iterator.{YieldsList-from_slice}
use Rattle.std.proofs.lemmas.Iterator.Adapters.{position_from-zero}
use Rattle.std.proofs.lemmas.Iterator.Search.{position_from_yields_List}
use Rattle.formats.specs.Codes.{verdict, writes}
use Rattle.formats.proofs.Loops.{first_failing}
use Rattle.formats.proofs.code.check_bytes.Goals as goal

pub returns : goal.returns
returns c =
    let a = c.args.alphabet in
    let text = c.args.text.now in
    let found = position_from_yields_List (λ b. not (writes a b)) _ _ c.position.result c.position.ensures.ran (YieldsList-from_slice text cc) (λ x b q k. search (rules, tests)) in
    c.refuse.ensures ∙ ap verdict (found ∙ position_from-zero (λ b. not (writes a b)) text ∙ first_failing (writes a) 0 text)
