-- File: the pool file, to the byte. Assumes nothing.
--   marked      it begins with the letters B, X and P
--   version     a number of two bytes, the high one first
--   radix_of    the radix, one byte
--   right_form  mark, version, radix and size are right
--   parts       the radix, and what comes after the first six bytes, where the form is right
--   file_rows   the 256 rows after the first six bytes
--   first_bad   the first row that is no permutation
--   reading     what it is to read a pool file
use Rattle.std.specs.Prelude.{ℕ, zero, suc, ◌+◌, ◌*◌, Bool, cond, ◌&&◌, List, [], ◌∷◌, length, take, drop, Some, None, Ok, Err, Option, Result, ◌==◌, nat_le, slice_index}
use Rattle.faults.specs.declared.fault.Cause.TheVariants.{PoolFile, PoolRow}
use Rattle.faults.specs.declared.fault.Fault.{Fault}
use Rattle.faults.specs.Faults.{own, placed}
use Rattle.coins.specs.Boxes.{permutes}

-- the codes of the three letters are 66, 88 and 80
abbrev pub marked : List ℕ → Bool
marked bytes = (slice_index bytes 0 == 66 && slice_index bytes 1 == 88) && slice_index bytes 2 == 80

abbrev pub version : List ℕ → ℕ
version bytes = 256 * slice_index bytes 3 + slice_index bytes 4

abbrev pub radix_of : List ℕ → ℕ
radix_of bytes = slice_index bytes 5

unfoldable pub right_form : List ℕ → Bool
right_form bytes =
    marked bytes &&
    (version bytes == 1 && ((nat_le 4 (radix_of bytes) && nat_le (radix_of bytes) 64) && length bytes == 6 + 256 * radix_of bytes))

-- the radix and the rows of a file of the right form
abbrev pub parts : List ℕ → Option (ℕ × List ℕ)
parts bytes = cond (right_form bytes) (Some (radix_of bytes, drop 6 bytes)) None

-- a list cut into rows of a length
unfoldable pub cut : ℕ → ℕ → List ℕ → List (List ℕ)
cut a zero bytes = []
cut a (suc n) bytes = take a bytes ∷ cut a n (drop a bytes)

abbrev pub file_rows : List ℕ → List (List ℕ)
file_rows bytes = cut (radix_of bytes) 256 (drop 6 bytes)

-- counted from n
unfoldable pub first_bad : ℕ → List (List ℕ) → Option ℕ
first_bad n [] = None
first_bad n (row ∷ rows) = cond (permutes row) (first_bad (suc n) rows) (Some n)

abbrev pub unless : Option ℕ → List (List ℕ) → Result (List (List ℕ)) Fault
unless None rows = Ok rows
unless (Some n) rows = Err (placed (own PoolRow) n)

abbrev pub rows_read : List (List ℕ) → Result (List (List ℕ)) Fault
rows_read rows = unless (first_bad 0 rows) rows

abbrev pub reading : List ℕ → Result (List (List ℕ)) Fault
reading bytes = cond (right_form bytes) (rows_read (file_rows bytes)) (Err (own PoolFile))
