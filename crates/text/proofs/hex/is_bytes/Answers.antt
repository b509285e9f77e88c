use Rattle.std.proofs.Common.{◌/◌, length, is_some, ap, sym, ◌∙◌, arith, rules, tests}
use Rattle.std.specs.List.{list_all}
use Rattle.std.proofs.lemmas.Iterator.{YieldsList-from_slice}
use Rattle.std.proofs.lemmas.Iterator.Search.{all_from_yields_List}
use Rattle.std.proofs.lemmas.Bool.Decides.{nat_tests}
use Rattle.text.proofs.Digits.{is_byte, all_bytes, odd_length}
use Rattle.text.proofs.hex.is_bytes.Goals as goal

pub returns-then-is_empty : goal.returns-then-is_empty
returns-then-is_empty c =
    all_from_yields_List (is_byte c.args.letters) _ _ _ c.all.ensures.ran (YieldsList-from_slice c.as_chunks.result.0.now cc) (λ x b q k. search (rules, tests))
    ∙ ap (list_all (is_byte c.args.letters)) c.as_chunks.ensures.front
    ∙ all_bytes c.args.letters (length c.args.text.now / 2) c.args.text.now (let e = c.is_empty.ensures in let t = c.if-is_empty.true in let b = c.as_chunks.ensures.back_len in grind (arith, nat_tests))

pub returns-else-is_empty : goal.returns-else-is_empty
returns-else-is_empty c = c.if-is_empty.false ∙ sym (ap is_some (odd_length c.args.letters c.args.text.now (length c.args.text.now / 2) (let e = c.is_empty.ensures in let f = c.if-is_empty.false in let b = c.as_chunks.ensures.back_len in grind (arith, nat_tests))))
