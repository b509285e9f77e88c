-- The codebook that a first line names, by a shape's text and the digits of coins. Assumes nothing.
--   book_in      the codebook below the walk in an answer, as plain data
--   coins_in     the bytes of coins in an answer, as plain data
--   coins_of     the bytes that the digits of coins spell, if they spell any
--   book_for     the codebook of a form that was read, made with the coins of bytes
--   book_from    the same from a shape's text, with the bytes of coins that were read
--   opened_book  the same from a shape's text and digits
use Rattle.std.specs.Prelude.{ℕ, cond, List, length, Ok, Err, Result, nat_le}
use Rattle.std.specs.Option.{ok_or}
use Rattle.arrayvec.specs.ArrayVec.{ArrayVec}
use Rattle.faults.specs.declared.fault.Cause.TheVariants.{Line}
use Rattle.faults.specs.declared.fault.Fault.{Fault}
use Rattle.faults.specs.Faults.{own}
use Rattle.formats.specs.Forms.{Form}
use Rattle.formats.specs.ShapeTexts.{read_form}
use Rattle.coins.specs.Coins.{bits_of}
use Rattle.codebook.specs.declared.book.Codebook.{Codebook}
use Rattle.codebook.specs.Books.{Book, making_book}
use Rattle.codebook.specs.Codebooks.{book}
use Rattle.rules.specs.declared.nonzero_lead.NonzeroLead.{NonzeroLead}
use Rattle.text.specs.declared.hex.Letters.TheVariants.{Upper}
use Rattle.text.specs.Hex.{bytes_of}
use Rattle.walk.specs.declared.cycle.CycleWalk.{CycleWalk}

abbrev pub book_in : Result (CycleWalk Codebook NonzeroLead) Fault → Result Book Fault
book_in (Ok walk) = Ok (book walk.below)
book_in (Err fault) = Err fault

abbrev pub coins_in : Result (ArrayVec ℕ) Fault → Result (List ℕ) Fault
coins_in (Ok bytes) = Ok bytes.items
coins_in (Err fault) = Err fault

-- no line has more than 4,096 digits
unfoldable pub coins_of : List ℕ → Result (List ℕ) Fault
coins_of digits = cond (nat_le (length digits) 4096) (ok_or (bytes_of Upper digits) (own Line)) (Err (own Line))

abbrev pub book_for : Result Form Fault → List ℕ → Result Book Fault
book_for (Ok f) bytes = (making_book f (bits_of bytes)).answer
book_for (Err fault) bytes = Err fault

-- digits that spell no bytes are refused before the shape's text is read
abbrev pub book_from : List ℕ → Result (List ℕ) Fault → Result Book Fault
book_from shape (Ok bytes) = book_for (read_form shape) bytes
book_from shape (Err fault) = Err fault

unfoldable pub opened_book : List ℕ → List ℕ → Result Book Fault
opened_book shape digits = book_from shape (coins_of digits)
