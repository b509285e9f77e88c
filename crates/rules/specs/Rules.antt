-- The rules as plain data: which codes of a form each says yes to. Assumes nothing.
--   is_code        a string is a code of a form
--   first_nonzero  a string begins with a symbol other than 0
--   leads_nonzero  the codes that do
--   weight         what a digit counts in the weighted sum
--   weighted_sum   the sum of the weights, every other digit doubled
--   luhn_sum       the weighted sum of a code
--   is_decimal     the alphabet of the digits
--   passes_luhn    the codes of digits whose weighted sum is a multiple of 10
use Rattle.std.specs.Prelude.{ℕ, ◌+◌, ◌-◌, ◌*◌, ◌%◌, Bool, true, false, cond, not, ◌&&◌, List, [], ◌∷◌, is_ok, ◌==◌, nat_lt}
use Rattle.alphabets.specs.declared.alphabet.Alphabet.{Alphabet}
use Rattle.alphabets.specs.declared.alphabet.Alphabet.TheVariants.{Decimal, Hex, Upper, Alphanumeric}
use Rattle.formats.specs.Codes.{code_verdict}
use Rattle.formats.specs.Forms.{Form}

unfoldable pub is_code : Form → List ℕ → Bool
is_code f c = is_ok (code_verdict f c)

abbrev pub first_nonzero : List ℕ → Bool
first_nonzero [] = false
first_nonzero (x ∷ xs) = not (x == 0)

unfoldable pub leads_nonzero : Form → List ℕ → Bool
leads_nonzero f c = is_code f c && first_nonzero c

-- itself, or its double, less 9 if that is above 9
abbrev pub weight : Bool → ℕ → ℕ
weight false x = x
weight true x = cond (nat_lt 9 (x * 2)) (x * 2 - 9) (x * 2)

-- the first digit is doubled or not, and then the other way by turns
abbrev pub weighted_sum : Bool → List ℕ → ℕ
weighted_sum doubled [] = 0
weighted_sum doubled (x ∷ xs) = weight doubled x + weighted_sum (not doubled) xs

-- digits 1, 3, 5 and so on, counted from the left, are doubled
unfoldable pub luhn_sum : List ℕ → ℕ
luhn_sum c = weighted_sum true c

abbrev pub is_decimal : Alphabet → Bool
is_decimal Decimal = true
is_decimal Hex = false
is_decimal Upper = false
is_decimal Alphanumeric = false

unfoldable pub passes_luhn : Form → List ℕ → Bool
passes_luhn f c = is_decimal f.alphabet && (is_code f c && luhn_sum c % 10 == 0)
