use Rattle.std.proofs.Common.{◌+◌, ◌%◌, ◌==◌, drop, get_or, sym, ap, ◌∙◌, arith}
use Rattle.rules.specs.Rules.{weighted_sum, luhn_sum}
use Rattle.rules.specs.Told.{small_weight, by_turns, sum_more, sum_all}
use Rattle.rules.proofs.luhn.weighted_sum.Goals as goal

pub loop-place-init : goal.loop-place-init
unfolding luhn_sum
loop-place-init c = (omega arith, omega arith)

pub loop-place-preserved : goal.loop-place-preserved
loop-place-preserved c =
    let i = c.loop-place.place in
    let small = small_weight (i % 2 == 0) (get_or c.args.code.now i 0) (omega (arith, c.type_inv.code i)) in
    let more = sum_more c.args.code.now i c.loop-place.sum (i % 2 == 0) c.weigh-sum.result c.loop-place-test.true c.weigh-sum.ensures c.loop-place.invariant.0 in
    (ap (λ b. c.loop-place.sum + c.weigh-sum.result + weighted_sum b (drop (i + 1) c.args.code.now)) (sym (by_turns i)) ∙ more, omega arith)

pub returns : goal.returns
returns c = sum_all c.args.code.now c.loop-place.place c.loop-place.sum (c.loop-place.place % 2 == 0) (omega arith) c.loop-place.invariant.0
