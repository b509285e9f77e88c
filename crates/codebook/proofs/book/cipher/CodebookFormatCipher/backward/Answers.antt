use Rattle.std.proofs.Common.{Err, sym, refl, ap, ◌∙◌}
use Rattle.std.specs.Option.{unwrap_or}
use Rattle.std.proofs.lemmas.Result.{err_from_is_err_and}
use Rattle.formats.specs.Shapes.{form}
use Rattle.coins.specs.Sboxes.{place_of}
use Rattle.ciphers.specs.Swaps.{answer, left}
use Rattle.codebook.specs.Codebooks.{book}
use Rattle.codebook.specs.Calls.{call_refused, call_passed}
use Rattle.codebook.proofs.book.cipher.CodebookFormatCipher.backward.Goals as goal

pub returns-in_err-image : goal.returns-in_err-image
returns-in_err-image c =
    let b = book c.args.self.now in
    let p = err_from_is_err_and c.from_residual.result c.from_residual.ensures.1 in
    let refused = call_refused b (form c.args.shape.now) c.args.run.now c.args.code.now (λ y. place_of y b.table) c.in_err-image.ensures in
    record { value = p.1 ∙ ap Err p.2 ∙ sym (ap answer refused); after = sym (ap (λ o. left o c.args.code.now) refused); same = refl }

pub returns : goal.returns
returns c =
    let b = book c.args.self.now in
    let done = call_passed b (form c.args.shape.now) c.args.run.now c.args.code.now (λ y. place_of y b.table)
    c.in_ok-image.ensures (c.unwrap_or-number.ensures ∙ ap (λ o. unwrap_or o 0) c.undo.ensures) c.radix.ensures c.write_number.ensures in
    record { value = sym (ap answer done); after = sym (ap (λ o. left o c.args.code.now) done); same = refl }
