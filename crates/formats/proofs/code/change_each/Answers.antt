use Rattle.std.proofs.Common.{◌<◌, get_or, arith}
use Rattle.formats.proofs.Loops.{one_more}
use Rattle.formats.proofs.code.change_each.Goals as goal

pub loop-x-preserved : goal.loop-x-preserved
loop-x-preserved g c = λ f is.
    let small : get_or c.loop-x.xs c.loop-x.x-index 0 < 256 = omega arith in
    one_more f c.args.xs.now c.loop-x.xs c.loop-x.x-index c.loop-x-test.true (omega arith) (c.loop-x.invariant f is) c.change.result
    (is (get_or c.loop-x.xs c.loop-x.x-index 0) c.change.result small c.change.ensures)
