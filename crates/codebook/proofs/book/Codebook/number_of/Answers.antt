use Rattle.std.proofs.Common.{Err, ap, ◌∙◌, arith}
use Rattle.std.proofs.lemmas.Result.{err_from_is_err_and}
use Rattle.formats.specs.Shapes.{form}
use Rattle.codebook.specs.Codebooks.{book}
use Rattle.codebook.specs.Calls.{number_refused, readable, number_read}
use Rattle.codebook.proofs.book.Codebook.number_of.Goals as goal

pub returns-in_err-check : goal.returns-in_err-check
returns-in_err-check c =
    let p = err_from_is_err_and c.from_residual.result c.from_residual.ensures.1 in
    p.1 ∙ ap Err p.2 ∙ number_refused (book c.args.self.now) (form c.args.shape.now) c.args.run.now c.args.code.now c.takes.ensures c.in_err-check.ensures

pub read_number-requires : goal.read_number-requires
read_number-requires c =
    let s = c.args.self.now in
    let r = readable (book s) (form c.args.shape.now) c.args.run.now c.args.code.now c.takes.ensures c.in_ok-check.ensures c.radix.ensures (omega arith) in
    record { symbols = r.0; few = r.1 }

pub returns : goal.returns
returns c =
    number_read (book c.args.self.now) (form c.args.shape.now) c.args.run.now c.args.code.now c.takes.ensures c.in_ok-check.ensures c.radix.ensures c.read_number.ensures
