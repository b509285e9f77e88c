use Rattle.std.proofs.Common.{◌≡◌, get_or, Some, ap, ◌∙◌, inl, inr, arith}
use Rattle.std.proofs.lemmas.Bool.Decides.{nat_tests}
use Rattle.text.specs.Hex.{digit_of}
use Rattle.text.proofs.Digits.{digit_below}
use Rattle.text.proofs.Numbers.{fits, one_more, bound_more, not_a_digit, number_read, too_short, too_long, not_a_number}
use Rattle.text.proofs.hex.number.Goals as goal

pub returns-then-is_empty : goal.returns-then-is_empty
returns-then-is_empty c =
    let e = c.is_empty.ensures in
    elim c.then-is_empty.either [ inl h ↦ too_short c.args.letters c.args.text.now (grind (arith, nat_tests)) | inr h ↦ too_long c.args.letters c.args.text.now h.1 ]

pub returns-in_err-digit : goal.returns-in_err-digit
returns-in_err-digit c = let e = c.is_empty.ensures in let f = c.if-is_empty.false in c.from_residual.ensures
    ∙ not_a_number c.args.letters c.args.text.now (grind (arith, nat_tests)) c.if-text-gt32.false (not_a_digit c.args.letters c.args.text.now c.loop-b.n c.loop-b.b-index (omega arith) c.loop-b.invariant.0 c.in_err-digit.ensures)

pub overflow_mul-n : goal.overflow_mul-n
overflow_mul-n c = omega (arith, fits c.loop-b.n c.loop-b.b-index (omega arith) c.loop-b.invariant.1)

-- the digit that the turn reads
digit_read : (c : goal.After-from) → Some c.from.result ≡ digit_of c.args.letters (get_or c.args.text.now c.loop-b.b-index 0)
digit_read c = ap (λ d. Some d) c.from.ensures ∙ c.in_ok-digit.ensures

pub overflow_add-n : goal.overflow_add-n
overflow_add-n c =
    omega (arith, fits c.loop-b.n c.loop-b.b-index (omega arith) c.loop-b.invariant.1, digit_below c.args.letters _ c.from.result (digit_read c))

pub loop-b-preserved : goal.loop-b-preserved
loop-b-preserved c = (
  one_more c.args.letters c.args.text.now c.loop-b.n c.loop-b.b-index (omega arith) c.loop-b.invariant.0 c.from.result (digit_read c),
  bound_more c.loop-b.n c.from.result c.loop-b.b-index (digit_below c.args.letters _ c.from.result (digit_read c)) c.loop-b.invariant.1,
)

pub returns : goal.returns
returns c =
    let e = c.is_empty.ensures in let f = c.if-is_empty.false in
    number_read c.args.letters c.args.text.now c.loop-b.n c.loop-b.b-index (grind (arith, nat_tests)) c.if-text-gt32.false (omega arith) c.loop-b.invariant.0
