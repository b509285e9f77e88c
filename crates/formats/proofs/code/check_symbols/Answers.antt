use Rattle.std.proofs.Common.{not, ap, ◌∙◌, rules, tests}
use Rattle.std.proofs.lemmas.Iterator.{YieldsList-from_slice}
use Rattle.std.proofs.lemmas.Iterator.Adapters.{position_from-zero}
use Rattle.std.proofs.lemmas.Iterator.Search.{position_from_yields_List}
use Rattle.formats.specs.Codes.{verdict, is_symbol}
use Rattle.formats.proofs.Loops.{first_failing}
use Rattle.formats.proofs.code.check_symbols.Goals as goal

pub returns : goal.returns
returns c =
    let a = c.args.alphabet in
    let code = c.args.code.now in
    let found = position_from_yields_List (λ x. not (is_symbol a x)) _ _ c.position.result c.position.ensures.ran (YieldsList-from_slice code cc) (λ x b q k. search (rules, tests)) in
    c.refuse.ensures ∙ ap verdict (found ∙ position_from-zero (λ x. not (is_symbol a x)) code ∙ first_failing (is_symbol a) 0 code)
