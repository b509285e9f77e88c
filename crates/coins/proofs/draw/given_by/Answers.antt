use Rattle.std.proofs.Common.{◌^◌, ◌<◌, ap, arith, pow_pos}
use Rattle.coins.specs.Draws.{width}
use Rattle.coins.proofs.Draws.{given_rejected, given_accepted, given_below}
use Rattle.coins.proofs.Widths.{width_most, try_power}
use Rattle.coins.proofs.draw.given_by.Goals as goal

pub overflow_shl-whole : goal.overflow_shl-whole
overflow_shl-whole c = omega (arith, width_most c.args.bound c.requires.bound.1)

pub nonzero_rem-product : goal.nonzero_rem-product
nonzero_rem-product c = omega (arith, try_power c.args.bound c.args.count c.requires.bound.1 c.requires.count, pow_pos (width c.args.bound))

pub nonzero_div-result : goal.nonzero_div-result
nonzero_div-result c = omega (arith, try_power c.args.bound c.args.count c.requires.bound.1 c.requires.count, pow_pos (width c.args.bound))

pub returns-then-product-whole : goal.returns-then-product-whole
returns-then-product-whole c =
    given_rejected c.args.bound c.args.v _ _ _ c.from-bound.ensures c.from.ensures
    (try_power c.args.bound c.args.count c.requires.bound.1 c.requires.count) c.if-product-whole.true

pub overflow_cast-result : goal.overflow_cast-result
overflow_cast-result c =
    let few : c.args.v < 2 ^ width c.args.bound = omega (arith, c.requires.coins, ap (λ n. 2 ^ n) c.requires.count) in
    let h = given_below c.args.bound c.args.v _ _ _ c.from-bound.ensures c.from.ensures
    (try_power c.args.bound c.args.count c.requires.bound.1 c.requires.count) (omega arith) few in
    omega arith

pub returns : goal.returns
returns c =
    given_accepted c.args.bound c.args.v _ _ _ c.from-bound.ensures c.from.ensures
    (try_power c.args.bound c.args.count c.requires.bound.1 c.requires.count) c.if-product-whole.false
