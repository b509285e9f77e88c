use Rattle.std.proofs.Common.{◌≡◌, ◌-◌, ◌/◌, ◌^◌, ◌++◌, length, take}
use Rattle.codebook.specs.Numbers.{written}
use Rattle.codebook.proofs.book.cipher.write_number.Given as goal

abbrev pub invariant-loop-i : goal.invariant-loop-i
invariant-loop-i l =
    (l.code ≡ take l.i l.initial.code ++ written l.radix (length l.initial.code - l.i) l.number)
    × (l.rest ≡ l.number / l.radix ^ (length l.initial.code - l.i))
