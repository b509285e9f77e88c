-- The least number of rounds for a radix and a length. Assumes nothing.
--   columns       the lengths that the table has
--   rows          the table: a row for each radix from 4 to 16, an entry for each column
--   column_below  the place of the last column that is not above a length
--   column_above  the place of the first column that is not below a length
--   tabled        the entry for a radix and a length, where the table has one
--   least         the same number, and 0 where the table has none, as at length 1
use Rattle.std.specs.Prelude.{ℕ, suc, ◌+◌, ◌-◌, min, max, cond, ◌&&◌, List, [], ◌∷◌, Some, None, Option, nat_le, nat_lt, slice_index, slice_index_or}
use Rattle.std.specs.Option.{unwrap_or}

abbrev pub columns : List ℕ
columns = 2 ∷ 3 ∷ 4 ∷ 5 ∷ 6 ∷ 7 ∷ 8 ∷ 9 ∷ 10 ∷ 12 ∷ 16 ∷ 32 ∷ []

abbrev pub rows : List (List ℕ)
rows =
    (165 ∷ 135 ∷ 117 ∷ 105 ∷ 96 ∷ 89 ∷ 83 ∷ 78 ∷ 74 ∷ 68 ∷ 59 ∷ 52 ∷ [])
    ∷ (131 ∷ 107 ∷ 93 ∷ 83 ∷ 76 ∷ 70 ∷ 66 ∷ 62 ∷ 59 ∷ 54 ∷ 48 ∷ 46 ∷ [])
    ∷ (113 ∷ 92 ∷ 80 ∷ 72 ∷ 65 ∷ 61 ∷ 57 ∷ 54 ∷ 51 ∷ 46 ∷ 44 ∷ 43 ∷ [])
    ∷ (102 ∷ 83 ∷ 72 ∷ 64 ∷ 59 ∷ 55 ∷ 51 ∷ 48 ∷ 46 ∷ 43 ∷ 41 ∷ 41 ∷ [])
    ∷ (94 ∷ 76 ∷ 66 ∷ 59 ∷ 54 ∷ 50 ∷ 47 ∷ 44 ∷ 42 ∷ 41 ∷ 39 ∷ 39 ∷ [])
    ∷ (88 ∷ 72 ∷ 62 ∷ 56 ∷ 51 ∷ 47 ∷ 44 ∷ 42 ∷ 40 ∷ 39 ∷ 38 ∷ 38 ∷ [])
    ∷ (83 ∷ 68 ∷ 59 ∷ 53 ∷ 48 ∷ 45 ∷ 42 ∷ 39 ∷ 39 ∷ 38 ∷ 37 ∷ 37 ∷ [])
    ∷ (79 ∷ 65 ∷ 56 ∷ 50 ∷ 46 ∷ 43 ∷ 40 ∷ 38 ∷ 38 ∷ 37 ∷ 36 ∷ 37 ∷ [])
    ∷ (76 ∷ 62 ∷ 54 ∷ 48 ∷ 44 ∷ 41 ∷ 38 ∷ 37 ∷ 37 ∷ 36 ∷ 35 ∷ 36 ∷ [])
    ∷ (73 ∷ 60 ∷ 52 ∷ 47 ∷ 43 ∷ 39 ∷ 37 ∷ 36 ∷ 36 ∷ 35 ∷ 34 ∷ 36 ∷ [])
    ∷ (71 ∷ 58 ∷ 50 ∷ 45 ∷ 41 ∷ 38 ∷ 36 ∷ 36 ∷ 35 ∷ 34 ∷ 34 ∷ 35 ∷ [])
    ∷ (69 ∷ 57 ∷ 49 ∷ 44 ∷ 40 ∷ 37 ∷ 36 ∷ 35 ∷ 34 ∷ 34 ∷ 33 ∷ 35 ∷ [])
    ∷ (67 ∷ 55 ∷ 48 ∷ 43 ∷ 39 ∷ 36 ∷ 35 ∷ 34 ∷ 34 ∷ 33 ∷ 33 ∷ 35 ∷ [])
    ∷ []

-- how many of the columns, from the first on, are below len
abbrev pub count_below : ℕ → List ℕ → ℕ
count_below len [] = 0
count_below len (column ∷ more) = cond (nat_lt column len) (suc (count_below len more)) 0

unfoldable pub column_below : ℕ → ℕ
column_below len = count_below (len + 1) columns - 1

unfoldable pub column_above : ℕ → ℕ
column_above len = count_below len columns

-- a radix above 16 has the row of 16
abbrev pub row_of : ℕ → List ℕ
row_of radix = slice_index_or rows (min radix 16 - 4) []

-- between two columns, the larger of their two entries
abbrev pub entry_at : List ℕ → ℕ → ℕ
entry_at row len = max (slice_index row (column_below len)) (slice_index row (column_above len))

unfoldable pub tabled : ℕ → ℕ → Option ℕ
tabled radix len = cond (nat_le 4 radix && (nat_le 2 len && nat_le len 32)) (Some (entry_at (row_of radix) len)) None

unfoldable pub least : ℕ → ℕ → ℕ
least radix len = unwrap_or (tabled radix len) 0
