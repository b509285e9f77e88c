use Rattle.std.proofs.Common.{◌<◌, arith}
use Rattle.std.proofs.ByRecursion.{All-get_or}
use Rattle.pools.proofs.Rows.{twice_more, twice_all}
use Rattle.pools.proofs.pool.tables.write_twice.Goals as goal

pub overflow_cast-row : goal.overflow_cast-row
overflow_cast-row c = let h = All-get_or (λ x. x < 256) c.args.entries.now c.loop-i.i 0 c.loop-i-test.true c.requires.bytes in omega arith

pub overflow_cast-row-in-loop-i : goal.overflow_cast-row-in-loop-i
overflow_cast-row-in-loop-i c =
    let h = All-get_or (λ x. x < 256) c.args.entries.now c.loop-i.i 0 c.loop-i-test.true c.requires.bytes in omega arith

pub loop-i-preserved : goal.loop-i-preserved
loop-i-preserved c = twice_more c.args.entries.now c.loop-i.row (omega arith) c.loop-i.i c.loop-i-test.true c.loop-i.invariant

pub returns : goal.returns
returns c = twice_all c.args.entries.now c.loop-i.row (omega arith) (λ k h. c.loop-i.invariant k (omega arith))
