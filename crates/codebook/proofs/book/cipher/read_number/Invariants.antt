use Rattle.std.proofs.Common.{◌≡◌, take}
use Rattle.codebook.specs.Numbers.{number}
use Rattle.codebook.proofs.book.cipher.read_number.Given as goal

abbrev pub invariant-loop-x : goal.invariant-loop-x
invariant-loop-x l = l.number ≡ number l.radix (take l.x-index l.code)
