-- Alphabets: the bytes that write the symbols of each, and the letter that names it. Assumes nothing.
--   bytes_of     the bytes that write an alphabet's symbols, the byte of symbol 0 first
--   radix_of     how many symbols an alphabet has
--   letter_of    the letter that names an alphabet
--   alphabets    all of them
--   alphabet_of  the alphabet that a letter names
--   symbol_of    the symbol that a byte writes
--   byte_of      the byte that writes a symbol
--   span_at      what a number goes to, where a span of numbers goes in order to another
use Rattle.std.specs.Prelude.{ℕ, suc, ◌+◌, ◌-◌, cond, ◌&&◌, List, [], ◌∷◌, Some, None, codes, Option, ◌==◌, nat_le, nat_lt, slice_index}
use Rattle.alphabets.specs.declared.alphabet.Alphabet.{Alphabet}
use Rattle.alphabets.specs.declared.alphabet.Alphabet.TheVariants.{Decimal, Hex, Upper, Alphanumeric}

abbrev pub bytes_of : Alphabet → List ℕ
bytes_of Decimal = codes "0123456789"
bytes_of Hex = codes "0123456789ABCDEF"
bytes_of Upper = codes "ABCDEFGHIJKLMNOPQRSTUVWXYZ"
bytes_of Alphanumeric = codes "0123456789ABCDEFGHIJKLMNOPQRSTUVWXYZ"

abbrev pub radix_of : Alphabet → ℕ
radix_of Decimal = 10
radix_of Hex = 16
radix_of Upper = 26
radix_of Alphanumeric = 36

-- d, h, u and m
abbrev pub letter_of : Alphabet → ℕ
letter_of Decimal = 100
letter_of Hex = 104
letter_of Upper = 117
letter_of Alphanumeric = 109

abbrev pub alphabets : List Alphabet
alphabets = Decimal ∷ Hex ∷ Upper ∷ Alphanumeric ∷ []

abbrev pub named_in : List Alphabet → ℕ → Option Alphabet
named_in [] letter = None
named_in (a ∷ more) letter = cond (letter == letter_of a) (Some a) (named_in more letter)

abbrev pub alphabet_of : ℕ → Option Alphabet
alphabet_of letter = named_in alphabets letter

-- the first place at which b stands in a list, counted from i
abbrev pub place_from : ℕ → ℕ → List ℕ → Option ℕ
place_from i b [] = None
place_from i b (x ∷ xs) = cond (b == x) (Some i) (place_from (suc i) b xs)

unfoldable pub symbol_of : Alphabet → ℕ → Option ℕ
symbol_of a b = place_from 0 b (bytes_of a)

unfoldable pub byte_of : Alphabet → ℕ → Option ℕ
byte_of a x = cond (nat_lt x (radix_of a)) (Some (slice_index (bytes_of a) x)) None

-- the numbers from first to last go, in order, to those from start on: what x goes to
abbrev pub span_at : ℕ → ℕ → ℕ → ℕ → Option ℕ
span_at x first last start = cond (nat_le first x && nat_le x last) (Some (x - first + start)) None
