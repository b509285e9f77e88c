-- Sboxes: what a box holds. Assumes nothing.
--   entries   the box as a table: the image of each number below its radix
--   inverses  the inverse as a table
--   place_of  where a number stands in a table
--   unmoved   what it is to make the box that leaves each number where it is
--   given     what it is to make a box of given entries
--   boxed     what a call that makes a box answers, with the box as its table
use Rattle.std.specs.Prelude.{ℕ, suc, cond, ◌&&◌, List, [], ◌∷◌, length, take, Some, None, Ok, Err, Option, Result, ◌==◌, nat_le}
use Rattle.std.specs.List.{range_with_len}
use Rattle.faults.specs.declared.fault.Fault.{Fault}
use Rattle.coins.specs.Boxes.{permutes}
use Rattle.coins.specs.declared.sbox.Sbox.{Sbox}

abbrev pub entries : Sbox → List ℕ
entries b = take b.radix b.forward

abbrev pub inverses : Sbox → List ℕ
inverses b = take b.radix b.inverse

-- the places are counted from i
abbrev pub place_from : ℕ → ℕ → List ℕ → Option ℕ
place_from i y [] = None
place_from i y (x ∷ xs) = cond (x == y) (Some i) (place_from (suc i) y xs)

abbrev pub place_of : ℕ → List ℕ → Option ℕ
place_of y table = place_from 0 y table

abbrev pub boxed : Result (Sbox × ℕ) Fault → Result (List ℕ × ℕ) Fault
boxed (Ok (b, n)) = Ok (entries b, n)
boxed (Err f) = Err f

-- each number at its own place, for a radix of 2 to 4,096
abbrev pub unmoved : ℕ → Option (List ℕ)
unmoved a = cond (nat_le 2 a && nat_le a 4096) (Some (range_with_len 0 a)) None

-- the box of given entries, 2 to 4,096 of them, where they are a permutation
abbrev pub given : List ℕ → Option (List ℕ)
given table = cond ((nat_le 2 (length table) && nat_le (length table) 4096) && permutes table) (Some table) None
