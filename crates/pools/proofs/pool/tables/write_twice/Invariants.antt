use Rattle.pools.proofs.Rows.{Twice}
use Rattle.pools.proofs.pool.tables.write_twice.Given as goal

abbrev pub invariant-loop-i : goal.invariant-loop-i
invariant-loop-i l = Twice l.entries l.row l.i
