-- Codebooks: what one holds, as plain data. Assumes nothing.
--   book    the codebook as plain data
--   booked  the same in the answer of a call that makes one
use Rattle.std.specs.Prelude.{Ok, Err, Result}
use Rattle.faults.specs.declared.fault.Fault.{Fault}
use Rattle.coins.specs.Sboxes.{entries}
use Rattle.codebook.specs.declared.book.Codebook.{Codebook}
use Rattle.codebook.specs.Books.{Book}

abbrev pub book : Codebook → Book
book b = record { alphabet = b.alphabet; len = b.len; table = entries b.sbox }

abbrev pub booked : Result Codebook Fault → Result Book Fault
booked (Ok b) = Ok (book b)
booked (Err fault) = Err fault
