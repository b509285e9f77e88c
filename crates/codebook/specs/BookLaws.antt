-- What codebooks are held to. Assumes nothing.
--   PermutesCodes  a map takes each code of a form to one, and each from exactly one
--   Sound          a codebook's box is a permutation of the numbers of its codes
--   KeepsLaws      what a sound codebook does as a cipher
--   Made           what is made from coins is sound, and when nothing is made
--   Examples       some counts, a codebook and what it does
use Rattle.std.specs.Prelude.{◌≡◌, ℕ, ◌^◌, ◌<◌, ◌≤◌, true, List, [], ◌∷◌, Some, None, Ok, Err}
use Rattle.std.specs.List.{AllByRecursion}
use Rattle.alphabets.specs.declared.alphabet.Alphabet.TheVariants.{Decimal, Hex, Upper, Alphanumeric}
use Rattle.faults.specs.declared.fault.Cause.TheVariants.{ShapeNotTaken, CoinsShort}
use Rattle.faults.specs.declared.fault.Fault.{Fault}
use Rattle.alphabets.specs.Alphabets.{radix_of}
use Rattle.formats.specs.Codes.{Code}
use Rattle.faults.specs.Faults.{own}
use Rattle.formats.specs.Forms.{Form, form_of}
use Rattle.coins.specs.Boxes.{Permutation}
use Rattle.coins.specs.Coins.{bits_of, refusal}
use Rattle.ciphers.specs.Meanings.{Laws}
use Rattle.codebook.specs.Books.{Book, book_of, making_book, meaning_of}
use Rattle.codebook.specs.Numbers.{code_count, most_codes, few_codes}

pub record PermutesCodes (f : Form) (go : List ℕ → List ℕ) : Type 0 where
  -- a code goes to a code
  pub stays : (c : List ℕ) → Code f c → Code f (go c)
  -- no two codes go to the same
  pub once : (c d : List ℕ) → Code f c → Code f d → go c ≡ go d → c ≡ d
  -- and some code goes to each
  pub onto : (d : List ℕ) → Code f d → (c : List ℕ) × Code f c × (go c ≡ d)

abbrev pub Sound : Book → Type 0
Sound b = Permutation (radix_of b.alphabet ^ b.len) b.table

pub record KeepsLaws (b : Book) : Type 0 where
  -- it takes the forms of its alphabet and length, and no others
  pub takes : (f : Form) → f.alphabet ≡ b.alphabet → f.len ≡ b.len → (meaning_of b).taken f ≡ true
  pub takes_only : (f : Form) → (meaning_of b).taken f ≡ true → (f.alphabet ≡ b.alphabet) × (f.len ≡ b.len)
  -- it bars no code
  pub open_to : (f : Form) (c : List ℕ) → (meaning_of b).barred f c ≡ None
  -- it is the same for every run, and for any number of rounds
  pub alike : (f g : Form) (run other c : List ℕ) → (meaning_of b).forward f run c ≡ (meaning_of b).forward g other c
  -- each map permutes the codes, and undoes the other
  pub forward : (f : Form) (run : List ℕ) → (meaning_of b).taken f ≡ true → PermutesCodes f ((meaning_of b).forward f run)
  pub backward : (f : Form) (run : List ℕ) → (meaning_of b).taken f ≡ true → PermutesCodes f ((meaning_of b).backward f run)
  pub lawful : Laws (meaning_of b)

-- too few coins for the box of a codebook
abbrev pub short : Fault
short = record { cause = CoinsShort; place = 0; depth = 3 }

pub record Made (f : Form) (coins : List ℕ) : Type 0 where
  -- more than 4,096 codes are refused, and nothing is taken
  pub many : most_codes < code_count f → making_book f coins ≡ refusal (own ShapeNotTaken)
  -- fewer are refused for want of coins alone
  pub few : code_count f ≤ most_codes → 1 ≤ f.len → (fault : Fault) → (making_book f coins).answer ≡ Err fault → fault ≡ short
  -- what is made has the form's alphabet and length, and a permutation for its box
  pub sound : AllByRecursion (λ b. b < 2) coins → (b : Book) → (making_book f coins).answer ≡ Ok b → (b.alphabet ≡ f.alphabet) × (b.len ≡ f.len) × Sound b

-- eight bytes of coins, and the table that they make: each number goes to the next, and the last to the first
abbrev pub some_coins : List ℕ
some_coins = bits_of (0x01 ∷ 0x01 ∷ 0x02 ∷ 0x04 ∷ 0x08 ∷ 0x10 ∷ 0x41 ∷ 0x08 ∷ [])

abbrev pub next_digit : Book
next_digit = book_of (form_of Decimal 1 0) (1 ∷ 2 ∷ 3 ∷ 4 ∷ 5 ∷ 6 ∷ 7 ∷ 8 ∷ 9 ∷ 0 ∷ [])

pub record Examples (f : Form) (run : List ℕ) (rounds : ℕ) : Type 0 where
  pub two_digits : few_codes (form_of Decimal 2 rounds) ≡ Some 100
  pub three_digits : few_codes (form_of Decimal 3 rounds) ≡ Some 1000
  pub four_digits : few_codes (form_of Decimal 4 rounds) ≡ None
  pub one_hex : few_codes (form_of Hex 1 rounds) ≡ Some 16
  pub three_hex : few_codes (form_of Hex 3 rounds) ≡ Some 4096
  pub two_letters : few_codes (form_of Upper 2 rounds) ≡ Some 676
  pub three_letters : few_codes (form_of Upper 3 rounds) ≡ None
  pub two_signs : few_codes (form_of Alphanumeric 2 rounds) ≡ Some 1296
  pub three_signs : few_codes (form_of Alphanumeric 3 rounds) ≡ None
  pub most_signs : few_codes (form_of Alphanumeric 32 rounds) ≡ None
  pub made_of_coins : (making_book (form_of Decimal 1 0) some_coins).answer ≡ Ok next_digit
  pub nine : (meaning_of next_digit).forward f run (9 ∷ []) ≡ 0 ∷ []
  pub four : (meaning_of next_digit).forward f run (4 ∷ []) ≡ 5 ∷ []
  pub five : (meaning_of next_digit).backward f run (5 ∷ []) ≡ 4 ∷ []
