use Rattle.std.proofs.Common.{refl, arith, length-set, rules}
use Rattle.text.specs.Hex.{digits_of}
use Rattle.text.proofs.Digits.{digits_more, digits_all}
use Rattle.text.proofs.hex.lower.Goals as goal

pub loop-i-init : goal.loop-i-init
unfolding digits_of
loop-i-init c = (refl, refl)

pub loop-i-preserved : goal.loop-i-preserved
loop-i-preserved c =
    (simp length-set c.loop-i.invariant.0, digits_more c.args.block c.loop-i.text c.loop-i.i _ _ (search rules) (omega (arith, c.loop-i.invariant.0)) c.lower_digit.ensures c.lower_digit-in-loop-i.ensures c.loop-i.invariant.1)

pub returns : goal.returns
returns c = digits_all c.args.block c.loop-i.text c.loop-i.i (search rules) c.loop-i.invariant.0 (omega arith) c.loop-i.invariant.1
