use Rattle.std.proofs.Common.{◌≡◌}
use Rattle.pools.specs.Rows.{rows_of}
use Rattle.pools.specs.Shuffled.{makings}
use Rattle.pools.proofs.Makings.{Pooling}
use Rattle.pools.proofs.pool.Pool.shuffled.Given as goal

abbrev pub invariant-loop-n : goal.invariant-loop-n
invariant-loop-n g l = record {
  made :
      Pooling (makings l.radix 0 256 (g.C.Coins.waiting l.initial.coins)) (g.C.Coins.waiting l.initial.coins) l.radix l.n-counter
      (rows_of l.tables.radix l.tables.count l.tables.forward) (g.C.Coins.waiting l.coins);
  count : l.tables.count ≡ l.n-counter;
  same : l.tables.radix ≡ l.radix;
}
