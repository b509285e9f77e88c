use Rattle.std.proofs.Common.{sym, ◌∙◌, arith}
use Rattle.formats.specs.Shapes.{form}
use Rattle.rules.specs.Told.{code_only, lead_no_code, lead_by_first, first_some}
use Rattle.rules.proofs.nonzero_lead.NonzeroLeadRule.allows.Goals as goal

pub bounds-code-0 : goal.bounds-code-0
bounds-code-0 c =
    let code = code_only (form c.args.shape.now) c.args.code.now (sym c.if-is_code.ensures) in
    omega (arith, code.long)

pub returns-then-is_code : goal.returns-then-is_code
returns-then-is_code c =
    let code = code_only (form c.args.shape.now) c.args.code.now (sym c.if-is_code.ensures) in
    first_some c.args.code.now (omega (arith, code.long)) ∙ lead_by_first (form c.args.shape.now) c.args.code.now (sym c.if-is_code.ensures)

pub returns-else-is_code : goal.returns-else-is_code
returns-else-is_code c =
    c.if-is_code.false ∙ lead_no_code (form c.args.shape.now) c.args.code.now (sym c.if-is_code.ensures)
