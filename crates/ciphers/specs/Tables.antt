-- A pool's flat table as the network reads it. Assumes nothing.
--   Reads  each row holds its box twice, so that a sum of symbols finds its image with no remainder taken
use Rattle.std.specs.Prelude.{◌≡◌, ℕ, ◌+◌, ◌*◌, ◌%◌, ◌<◌, ◌≤◌, List, length, slice_index}
use Rattle.pools.specs.Rows.{rows_of}
use Rattle.ciphers.specs.Layers.{image}

pub record Reads (a : ℕ) (table : List ℕ) : Type 0 where
  pub least : 4 ≤ a
  pub most : a ≤ 64
  pub long : length table ≡ 32768
  pub inside : (i x : ℕ) → i < 256 → x < a → image (rows_of a 256 table) i x < a
  -- twice the radix is the width of a row
  pub looks : (i t : ℕ) → i < 256 → t < a + a → slice_index table (i * (a + a) + t) ≡ image (rows_of a 256 table) i (t % a)
