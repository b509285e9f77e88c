-- Rows: boxes stored in one flat table, each row twice in a row. Assumes nothing.
--   rows_of   the rows of a table, the first copy of each
--   flat      the table of rows
--   written   a table with one row written
--   Inside    the entries of rows are below the radix
--   Undone    each row of one table is undone by that of another
--   Filled    two tables whose first rows are boxes and their inverses
use Rattle.std.specs.Prelude.{◌≡◌, ℕ, zero, suc, ◌+◌, ◌*◌, ◌<◌, List, [], ◌∷◌, ◌++◌, take, drop, slice_index, slice_index_or}

unfoldable pub rows_of : ℕ → ℕ → List ℕ → List (List ℕ)
rows_of a zero table = []
rows_of a (suc n) table = take a table ∷ rows_of a n (drop (a + a) table)

abbrev pub flat : List (List ℕ) → List ℕ
flat [] = []
flat (r ∷ rs) = (r ++ r) ++ flat rs

abbrev pub written : ℕ → ℕ → List ℕ → List ℕ → List ℕ
written a n table row = take (n * (a + a)) table ++ ((row ++ row) ++ drop (n * (a + a) + (a + a)) table)

-- the entries of the first `count` rows are below the radix
abbrev pub Inside : ℕ → ℕ → List (List ℕ) → Type 0
Inside a count rows = (n x : ℕ) → (n < count) × (x < a) → slice_index (slice_index_or rows n []) x < a

-- and a row of the other table takes each back
abbrev pub Undone : ℕ → ℕ → List (List ℕ) → List (List ℕ) → Type 0
Undone a count rows backs = (n x : ℕ) → (n < count) × (x < a) → slice_index (slice_index_or backs n []) (slice_index (slice_index_or rows n []) x) ≡ x

pub record Filled (a count : ℕ) (forward inverse : List ℕ) : Type 0 where
  pub doubled : take (count * (a + a)) forward ≡ flat (rows_of a count forward)
  pub doubled_inverse : take (count * (a + a)) inverse ≡ flat (rows_of a count inverse)
  pub inside : Inside a count (rows_of a count forward)
  pub inside_inverse : Inside a count (rows_of a count inverse)
  pub there : Undone a count (rows_of a count forward) (rows_of a count inverse)
  pub back : Undone a count (rows_of a count inverse) (rows_of a count forward)
