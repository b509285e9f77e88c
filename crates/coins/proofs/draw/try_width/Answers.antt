use Rattle.std.proofs.Common.{arith}
use Rattle.coins.proofs.Widths.{width_found}
use Rattle.coins.proofs.draw.try_width.Goals as goal

pub returns : goal.returns
returns c =
    let p = c.next_power_of_two.ensures in
    let found = width_found c.args.bound c.next_power_of_two.result p.power.0 c.ilog2.result c.requires.0 p.power.1 p.lower_bound p.upper_bound c.ilog2.ensures.power_le c.ilog2.ensures.next_power_gt in
    omega arith
