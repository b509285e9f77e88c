-- Texts of shapes: a letter, two digits for the length and, if wanted, a slash and three digits for the rounds. Assumes nothing.
--   digit_of                  the number that a digit writes
--   two_digits, three_digits  the number that some digits write
--   number_of                 the number that any digits write
--   named_rounds              the rounds that stand after the length: none, or those after a slash
--   parts_of                  the parts of a text
--   read_form                 the answer to a text
--   text_of                   the text that a form is written as, where three digits hold its rounds
use Rattle.std.specs.Prelude.{ℕ, ◌+◌, ◌-◌, ◌*◌, ◌/◌, ◌%◌, cond, ◌&&◌, List, [], ◌∷◌, ◌++◌, Some, None, Err, Option, Result, ◌==◌, nat_le, nat_lt}
use Rattle.std.specs.Option.{option_and_then}
use Rattle.alphabets.specs.declared.alphabet.Alphabet.{Alphabet}
use Rattle.faults.specs.declared.fault.Cause.TheVariants.{ShapeText}
use Rattle.faults.specs.declared.fault.Fault.{Fault}
use Rattle.alphabets.specs.Alphabets.{letter_of, alphabet_of}
use Rattle.faults.specs.Faults.{own}
use Rattle.formats.specs.Forms.{Form, made}

abbrev pub digit_of : ℕ → Option ℕ
digit_of b = cond (nat_le 48 b && nat_le b 57) (Some (b - 48)) None

-- a number with one more digit after it
abbrev pub followed : Option ℕ → Option ℕ → Option ℕ
followed None d = None
followed (Some n) None = None
followed (Some n) (Some d) = Some (10 * n + d)

abbrev pub two_digits : ℕ → ℕ → Option ℕ
two_digits tens ones = followed (digit_of tens) (digit_of ones)

abbrev pub three_digits : ℕ → ℕ → ℕ → Option ℕ
three_digits hundreds tens ones = followed (two_digits hundreds tens) (digit_of ones)

-- a number with more digits after it
abbrev pub number_after : ℕ → List ℕ → Option ℕ
number_after n [] = Some n
number_after n (b ∷ more) = option_and_then (λ d. number_after (10 * n + d) more) (digit_of b)

abbrev pub number_of : List ℕ → Option ℕ
number_of digits = number_after 0 digits

abbrev pub named : Option ℕ → Option (Option ℕ)
named None = None
named (Some n) = Some (Some n)

abbrev pub named_rounds : List ℕ → Option (Option ℕ)
named_rounds [] = Some None
named_rounds (slash ∷ []) = None
named_rounds (slash ∷ a ∷ []) = None
named_rounds (slash ∷ a ∷ b ∷ []) = None
named_rounds (slash ∷ a ∷ b ∷ c ∷ []) = cond (slash == 47) (named (three_digits a b c)) None
named_rounds (slash ∷ a ∷ b ∷ c ∷ d ∷ more) = None

-- an alphabet, a length, and the rounds if they are named
abbrev pub Parts : Type 0
Parts = Alphabet × ℕ × Option ℕ

abbrev pub gathered : Option Alphabet → Option ℕ → Option (Option ℕ) → Option Parts
gathered None n r = None
gathered (Some a) None r = None
gathered (Some a) (Some n) None = None
gathered (Some a) (Some n) (Some r) = Some (a, n, r)

abbrev pub parts_of : List ℕ → Option Parts
parts_of [] = None
parts_of (a ∷ []) = None
parts_of (a ∷ b ∷ []) = None
parts_of (letter ∷ tens ∷ ones ∷ rest) = gathered (alphabet_of letter) (two_digits tens ones) (named_rounds rest)

abbrev pub answered : Option Parts → Result Form Fault
answered None = Err (own ShapeText)
answered (Some p) = made p.0 p.1 p.2

unfoldable pub read_form : List ℕ → Result Form Fault
read_form text = answered (parts_of text)

-- the digit of a number below ten
abbrev pub digit : ℕ → ℕ
digit n = 48 + n

-- the letter and the length
abbrev pub stem : Alphabet → ℕ → List ℕ
stem a n = letter_of a ∷ digit (n / 10) ∷ digit (n % 10) ∷ []

-- the slash and the rounds
abbrev pub tail : ℕ → List ℕ
tail r = 47 ∷ digit (r / 100) ∷ digit (r / 10 % 10) ∷ digit (r % 10) ∷ []

abbrev pub text_of : Form → Option (List ℕ)
text_of f =
    cond (f.len == 1) (Some (stem f.alphabet f.len)) (cond (nat_lt f.rounds 1000) (Some (stem f.alphabet f.len ++ tail f.rounds)) None)
