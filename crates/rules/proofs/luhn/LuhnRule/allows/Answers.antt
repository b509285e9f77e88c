use Rattle.std.proofs.Common.{sym, ◌∙◌, arith}
use Rattle.formats.specs.Shapes.{form}
use Rattle.rules.specs.Told.{code_only, luhn_other, luhn_no_code, luhn_by_sum}
use Rattle.rules.proofs.luhn.LuhnRule.allows.Goals as goal

pub weighted_sum-requires : goal.weighted_sum-requires
weighted_sum-requires c =
    let code = code_only (form c.args.shape.now) c.args.code.now (sym c.if-is_code.ensures) in
    omega (arith, code.long)

pub returns-then-is_code : goal.returns-then-is_code
returns-then-is_code c =
    luhn_by_sum (form c.args.shape.now) c.args.code.now (sym c.in-Decimal.ensures) (sym c.if-is_code.ensures) c.weighted_sum.result c.weighted_sum.ensures

pub returns-else-is_code : goal.returns-else-is_code
returns-else-is_code c = c.if-is_code.false ∙ luhn_no_code (form c.args.shape.now) c.args.code.now (sym c.if-is_code.ensures)

pub returns-in_default : goal.returns-in_default
returns-in_default c =
    luhn_other (form c.args.shape.now) c.args.code.now (λ e. c.in_default.not-Decimal (c.alphabet.ensures ∙ e))
