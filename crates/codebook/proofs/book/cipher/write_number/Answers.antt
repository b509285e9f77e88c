use Rattle.std.proofs.Common.{◌-◌, ◌/◌, ◌%◌, set, ap, ◌∙◌}
use Rattle.codebook.specs.Counts.{none_written, one_written, all_written}
use Rattle.codebook.proofs.book.cipher.write_number.Goals as goal

pub loop-i-init : goal.loop-i-init
loop-i-init c = none_written c.args.radix c.args.number c.args.code.now

pub loop-i-preserved : goal.loop-i-preserved
loop-i-preserved c =
    let old = c.args.code.now in
    let step = one_written c.args.radix c.args.number old c.loop-i.i c.loop-i.rest c.loop-i.code c.loop-i-test.true c.loop-i.auto.i c.loop-i.invariant in (
      ap (λ a. set c.loop-i.code (c.loop-i.i - 1) (c.loop-i.rest % a)) c.from.ensures ∙ step.0,
      ap (λ a. c.loop-i.rest / a) c.from-rest.ensures ∙ step.1,
    )

pub returns : goal.returns
returns c = all_written c.args.radix c.args.number c.args.code.now c.loop-i.i c.loop-i.code c.loop-i-test.false c.loop-i.invariant.0
