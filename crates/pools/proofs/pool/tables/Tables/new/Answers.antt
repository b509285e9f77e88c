use Rattle.pools.proofs.Rows.{filled_none}
use Rattle.pools.proofs.pool.tables.Tables.new.Goals as goal

pub invariant_of-result-clause-filled : goal.invariant_of-result-clause-filled
invariant_of-result-clause-filled c = filled_none c.args.radix _ _
