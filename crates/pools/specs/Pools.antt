-- Pools: what a pool holds. Assumes nothing.
--   boxes        the 256 boxes, each as its table
--   inverses     their inverses
--   StandsTwice  where a table has the entries of rows
--   Holds        what every pool holds
--   held         what a call that makes a pool answers, with the pool as its boxes
use Rattle.std.specs.Prelude.{◌≡◌, ℕ, ◌+◌, ◌*◌, ◌<◌, List, [], length, Ok, Err, Result, slice_index, slice_index_or}
use Rattle.faults.specs.declared.fault.Fault.{Fault}
use Rattle.coins.specs.Boxes.{Permutation, Undoes}
use Rattle.pools.specs.Rows.{rows_of}
use Rattle.pools.specs.declared.pool.Pool.{Pool}

abbrev pub boxes : Pool → List (List ℕ)
boxes p = rows_of p.radix 256 p.forward

abbrev pub inverses : Pool → List (List ℕ)
inverses p = rows_of p.radix 256 p.inverse

-- row n begins at place n times twice the radix, and what stands at place x of it stands at place radix + x too
abbrev pub StandsTwice : ℕ → List ℕ → List (List ℕ) → Type 0
StandsTwice a table rows =
    (n x : ℕ) → n < 256 → x < a →
    (slice_index table (n * (a + a) + x) ≡ slice_index (slice_index_or rows n []) x) × (slice_index table (n * (a + a) + (a + x)) ≡ slice_index (slice_index_or rows n []) x)

abbrev pub held : Result Pool Fault → Result (List (List ℕ)) Fault
held (Ok p) = Ok (boxes p)
held (Err f) = Err f

-- what every pool holds
pub record Holds (p : Pool) : Type 0 where
  pub count : length (boxes p) ≡ 256
  -- each box is a permutation of the symbols
  pub each : (n : ℕ) → n < 256 → Permutation p.radix (slice_index_or (boxes p) n [])
  -- its inverse undoes it, both ways
  pub undone : (n : ℕ) → n < 256 → Undoes p.radix (slice_index_or (boxes p) n []) (slice_index_or (inverses p) n [])
  pub undone_back : (n : ℕ) → n < 256 → Undoes p.radix (slice_index_or (inverses p) n []) (slice_index_or (boxes p) n [])
  -- and the tables have each row twice
  pub table : StandsTwice p.radix p.forward (boxes p)
  pub table_inverse : StandsTwice p.radix p.inverse (inverses p)
