-- Codebooks as plain data: how one is made from coins, and what it means as a cipher. Assumes nothing.
--   Book         an alphabet, a length, and a box over all the codes of them, as the table of its images
--   book_of      the codebook of a form and a table
--   making_book  what it is to make a codebook for a form from coins
--   taken_by     the forms that a codebook takes, whatever their rounds
--   numbered     what both swaps begin with: the checks, and then the code's number
--   through      a code's number through a map, written as a code again
--   meaning_of   what a codebook means as a cipher
use Rattle.std.specs.Prelude.{ℕ, Bool, cond, ◌&&◌, List, None, Ok, Err, Option, Result, ◌==◌, nat_le}
use Rattle.std.specs.Option.{unwrap_or}
use Rattle.std.specs.List.{slice_get}
use Rattle.alphabets.specs.declared.alphabet.Alphabet.{Alphabet}
use Rattle.faults.specs.declared.fault.Cause.TheVariants.{ShapeNotTaken}
use Rattle.faults.specs.declared.fault.Fault.{Fault}
use Rattle.alphabets.specs.Alphabets.{radix_of, letter_of}
use Rattle.faults.specs.Faults.{own, deeper}
use Rattle.formats.specs.Forms.{Form}
use Rattle.coins.specs.Boxes.{making}
use Rattle.coins.specs.Coins.{Outcome, refusal}
use Rattle.coins.specs.Sboxes.{place_of}
use Rattle.ciphers.specs.Meanings.{Meaning}
use Rattle.ciphers.specs.Swaps.{checked}
use Rattle.codebook.specs.Numbers.{number, written, code_count, most_codes}

pub record Book : Type 0 where
  pub alphabet : Alphabet
  pub len : ℕ
  pub table : List ℕ

abbrev pub book_of : Form → List ℕ → Book
book_of f table = record { alphabet = f.alphabet; len = f.len; table = table }

-- a refusal of the box is passed up
abbrev pub in_book : Form → Result (List ℕ) Fault → Result Book Fault
in_book f (Ok table) = Ok (book_of f table)
in_book f (Err fault) = Err (deeper fault)

-- the box has a number for each code; where there are too many codes nothing is taken
unfoldable pub making_book : Form → List ℕ → Outcome Book
making_book f coins =
    let box = making (code_count f) coins in
    cond (nat_le (code_count f) most_codes) (record { answer = in_book f box.answer; gone = box.gone }) (refusal (own ShapeNotTaken))

-- an alphabet is told by its letter
abbrev pub same_alphabet : Alphabet → Alphabet → Bool
same_alphabet a b = letter_of a == letter_of b

unfoldable pub taken_by : Book → Form → Bool
taken_by b f = same_alphabet b.alphabet f.alphabet && b.len == f.len

abbrev pub and_number : Result Unit Fault → ℕ → Result ℕ Fault
and_number (Ok u) n = Ok n
and_number (Err fault) n = Err fault

unfoldable pub numbered : Book → Form → List ℕ → List ℕ → Result ℕ Fault
numbered b f run c = and_number (checked (taken_by b f) f run c) (number (radix_of b.alphabet) c)

unfoldable pub through : Book → (ℕ → Option ℕ) → List ℕ → List ℕ
through b map c = written (radix_of b.alphabet) b.len (unwrap_or (map (number (radix_of b.alphabet) c)) 0)

-- it bars nothing, and swaps alike for every run: forward to the image in the table, backward to its place there
abbrev pub meaning_of : Book → Meaning
meaning_of b = record {
  taken = taken_by b;
  barred = λ f c. None;
  forward = λ f run c. through b (slice_get b.table) c;
  backward = λ f run c. through b (λ y. place_of y b.table) c;
}
