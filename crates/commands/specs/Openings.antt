-- What a first line spells, by its words. Assumes nothing.
--   Opening       B with a shape's text and the digits of coins, or F with an alphabet and a key
--   book_of       a shape's text and coins, which are bytes in upper-case hexadecimal
--   network_of    an alphabet's letter and a key, which is sixteen bytes in upper-case hexadecimal
--   chosen        what three words spell
--   opening_of    what some words spell
--   read_opening  the same, where no word is empty
--   opening       what a line spells, or nothing where the line is unreadable
--   as_opening    what the code reads as plain data
use Rattle.std.specs.Prelude.{ℕ, cond, List, [], ◌∷◌, length, is_some, Some, None, codes, Option, nat_le}
use Rattle.alphabets.specs.declared.alphabet.Alphabet.{Alphabet}
use Rattle.alphabets.specs.Alphabets.{alphabet_of}
use Rattle.text.specs.declared.hex.Letters.TheVariants.{Upper}
use Rattle.text.specs.Hex.{both, bytes_of, block_of}
use Rattle.text.specs.Words.{words_of}
use Rattle.commands.specs.declared.first.First.{First}
use Rattle.commands.specs.declared.first.First.TheVariants.{Codebook, Network}
use Rattle.commands.specs.Words.{all_filled, is}

pub data Opening : Type 0 where
  codebook : List ℕ → List ℕ → Opening
  network : Alphabet → List ℕ → Opening

abbrev pub book_of : List ℕ → List ℕ → Option Opening
book_of shape coins = cond (is_some (bytes_of Upper coins)) (Some (codebook shape coins)) None

abbrev pub alphabet_in : List ℕ → Option Alphabet
alphabet_in [] = None
alphabet_in (letter ∷ []) = alphabet_of letter
alphabet_in (letter ∷ b ∷ more) = None

abbrev pub network_of : List ℕ → List ℕ → Option Opening
network_of letter digits = both network (alphabet_in letter) (block_of Upper digits)

abbrev pub chosen : List ℕ → List ℕ → List ℕ → Option Opening
chosen name subject digits =
    cond (is (codes "B") name) (book_of subject digits) (cond (is (codes "F") name) (network_of subject digits) None)

abbrev pub opening_of : List (List ℕ) → Option Opening
opening_of [] = None
opening_of (name ∷ []) = None
opening_of (name ∷ subject ∷ []) = None
opening_of (name ∷ subject ∷ digits ∷ []) = chosen name subject digits
opening_of (name ∷ subject ∷ digits ∷ more ∷ words) = None

unfoldable pub read_opening : List (List ℕ) → Option Opening
read_opening words = cond (all_filled words) (opening_of words) None

-- a line has at most 4,096 bytes
unfoldable pub opening : List ℕ → Option Opening
opening line = cond (nat_le (length line) 4096) (read_opening (words_of line)) None

abbrev pub as_opening : First → Opening
as_opening (Codebook shape coins) = codebook shape.now coins.now
as_opening (Network alphabet key) = network alphabet key
