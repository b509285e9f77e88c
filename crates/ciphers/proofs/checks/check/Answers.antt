use Rattle.std.proofs.Common.{Err, sym, ap, ◌∙◌}
use Rattle.std.proofs.lemmas.Result.{err_from_is_err_and}
use Rattle.formats.specs.Shapes.{form}
use Rattle.ciphers.proofs.Checked.{name_refused, name_passed, bad_run, not_taken, by_code}
use Rattle.ciphers.proofs.checks.check.Goals as goal

pub returns-in_err-check : goal.returns-in_err-check
returns-in_err-check c =
    let run = c.args.run.now in
    let p = err_from_is_err_and c.from_residual.result c.from_residual.ensures.1 in
    let n = name_refused run c.in_err-check.field-0.0 (sym c.in_err-check.was ∙ c.check.ensures) in
    rw (p.1, p.2) (ap Err n.1 ∙ sym (bad_run c.args.taken (form c.args.shape.now) run c.args.code.now n.0))

pub returns-then-not-taken : goal.returns-then-not-taken
returns-then-not-taken c =
    let run = c.args.run.now in
    ap Err c.own.ensures ∙ sym (not_taken c.args.taken (form c.args.shape.now) run c.args.code.now (name_passed run (sym c.in_ok-check.was ∙ c.check.ensures)) c.if-not-taken.true)

pub returns : goal.returns
returns c =
    let run = c.args.run.now in
    c.check-2.ensures ∙ sym (by_code c.args.taken (form c.args.shape.now) run c.args.code.now (name_passed run (sym c.in_ok-check.was ∙ c.check.ensures)) c.if-not-taken.false)
