use Rattle.std.proofs.Common.{◌≡◌, drop}
use Rattle.std.specs.Iterator.Adapters.{enumerate_source, enumerate_count}
use Rattle.std.specs.Slice.Iter.{chunks_exact_rest, chunks_exact_size}
use Rattle.pools.specs.Rows.{rows_of}
use Rattle.pools.proofs.File.{Reading}
use Rattle.pools.proofs.pool.Pool.from_file.Given as goal

-- the boxes so far, and the rows that are left
abbrev pub invariant-loop-n : goal.invariant-loop-n
invariant-loop-n l = record {
  read :
      Reading l.radix (drop 6 l.bytes) l.tables.count (rows_of l.tables.radix l.tables.count l.tables.forward)
      (chunks_exact_rest (enumerate_source l.n-iterator));
  size : chunks_exact_size (enumerate_source l.n-iterator) ≡ l.radix;
  place : enumerate_count l.n-iterator ≡ l.tables.count;
  same : l.tables.radix ≡ l.radix;
}
