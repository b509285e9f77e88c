use Rattle.std.proofs.Common.{◌≡◌, ◌<◌, length, get_or, sym, ◌∙◌, arith}
use Rattle.alphabets.specs.declared.alphabet.Alphabet.TheVariants.{Decimal}
use Rattle.alphabets.proofs.Symbols.{symbol_below}
use Rattle.formats.proofs.Readings.{symbol_is_digit, digit_more, no_digit, small_number}
use Rattle.formats.proofs.shape.text.number.Goals as goal

pub returns-in_err-symbol-clause-value : goal.returns-in_err-symbol-clause-value
returns-in_err-symbol-clause-value c =
    let i = c.loop-byte.byte-index in
    let bs = c.args.digits.now in
    let byte : get_or bs i 0 < 256 = omega arith in
    let none = no_digit c.loop-byte.number i bs c.loop-byte-test.true (c.in_err-symbol.ensures ∙ symbol_is_digit _ byte) in
    cc (none, c.loop-byte.invariant.so_far)

pub loop-byte-preserved : goal.loop-byte-preserved
loop-byte-preserved c =
    let i = c.loop-byte.byte-index in
    let bs = c.args.digits.now in
    let d = c.in_ok-symbol.field-0 in
    let byte : get_or bs i 0 < 256 = omega arith in
    let digit = symbol_below Decimal (get_or bs i 0) d (sym c.in_ok-symbol.ensures) in
    let more = digit_more c.loop-byte.number d i bs c.loop-byte-test.true (c.in_ok-symbol.ensures ∙ symbol_is_digit _ byte) in
    record { so_far = cc (more, c.loop-byte.invariant.so_far); none = omega arith; one = omega arith; two = omega arith; three = omega arith }

pub returns-clause-small : goal.returns-clause-small
returns-clause-small c =
    let all = c.loop-byte.invariant in
    let end : c.loop-byte.byte-index ≡ length c.args.digits.now = omega arith in
    small_number c.loop-byte.number (length c.args.digits.now) c.requires (λ h. omega arith) (λ h. omega arith) (λ h. omega arith) all.three
