use Rattle.std.proofs.Common.{ap, ◌∙◌, arith}
use Rattle.std.proofs.lemmas.Int.Digits.{number_more}
use Rattle.std.proofs.lemmas.List.{take_all}
use Rattle.codebook.specs.Numbers.{number}
use Rattle.codebook.specs.Counts.{room_for}
use Rattle.codebook.proofs.book.cipher.read_number.Goals as goal

pub overflow_mul-number : goal.overflow_mul-number
overflow_mul-number c =
    let h = room_for c.args.radix c.args.code.now c.loop-x.x-index c.loop-x-test.true c.requires.symbols c.requires.few c.loop-x.invariant c.from.ensures in
    omega arith

pub overflow_add-number : goal.overflow_add-number
overflow_add-number c =
    let h = room_for c.args.radix c.args.code.now c.loop-x.x-index c.loop-x-test.true c.requires.symbols c.requires.few c.loop-x.invariant c.from.ensures in
    omega arith

pub loop-x-preserved : goal.loop-x-preserved
loop-x-preserved c = let e = number_more c.args.radix c.args.code.now c.loop-x.x-index c.loop-x-test.true in cc c.loop-x.invariant

pub returns : goal.returns
returns c = c.loop-x.invariant ∙ ap (number c.args.radix) (take_all c.loop-x.x-index c.args.code.now c.loop-x-test.false)
