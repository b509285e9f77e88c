use Rattle.std.proofs.Common.{Err, sym, ap, ◌∙◌}
use Rattle.std.proofs.lemmas.Result.{err_from_is_err_and}
use Rattle.formats.specs.Shapes.{form}
use Rattle.walk.specs.Calls.{admitted}
use Rattle.walk.proofs.Called.{admit_refused, admit_allowed, admit_denied}
use Rattle.walk.proofs.cycle.CycleWalk.admit.Goals as goal

pub returns-in_err-check : goal.returns-in_err-check
returns-in_err-check g c =
    let says = g.R.Rule.allowed c.args.self.now.rule (form c.args.shape.now) c.args.code.now in
    let p = err_from_is_err_and c.from_residual.result c.from_residual.ensures.1 in
    p.1 ∙ ap Err p.2 ∙
    admit_refused c.takes.result says (form c.args.shape.now) c.args.run.now c.args.code.now c.in_err-check.field-0.0 c.in_err-check.ensures ∙
    ap (λ t. admitted t says (form c.args.shape.now) c.args.run.now c.args.code.now) c.takes.ensures

pub returns-then-not-allows : goal.returns-then-not-allows
returns-then-not-allows g c =
    let says = g.R.Rule.allowed c.args.self.now.rule (form c.args.shape.now) c.args.code.now in
    ap Err c.own.ensures ∙
    admit_denied c.takes.result says (form c.args.shape.now) c.args.run.now c.args.code.now c.in_ok-check.ensures (sym c.if-not-allows.ensures) ∙
    ap (λ t. admitted t says (form c.args.shape.now) c.args.run.now c.args.code.now) c.takes.ensures

pub returns : goal.returns
returns g c =
    let says = g.R.Rule.allowed c.args.self.now.rule (form c.args.shape.now) c.args.code.now in
    admit_allowed c.takes.result says (form c.args.shape.now) c.args.run.now c.args.code.now c.in_ok-check.ensures (sym c.if-not-allows.ensures) ∙
    ap (λ t. admitted t says (form c.args.shape.now) c.args.run.now c.args.code.now) c.takes.ensures
