-- Codes: strings of symbols, and the texts that write them. Assumes nothing.
--   Code          a string of symbols, as long as its form says
--   Text          a string of bytes that write the symbols of a code
--   first_not     the first place at which a test fails
--   writes        a byte writes a symbol
--   is_symbol     a number is a symbol
--   stray_byte    the first byte of a text that writes no symbol
--   stray_symbol  the first number of a code that is no symbol
--   verdict       what a call answers that looks for strays
--   code_verdict  what a check of a code answers: the length comes first, then the strays
--   text_verdict  the same of a text
--   symbol_at     the symbol that a byte writes, where it writes one
--   byte_at       the byte that writes a symbol, where it is one
--   as_symbols    what a text turns into: the symbols that its bytes write
--   as_bytes      what a code turns into: the bytes that write its symbols
use Rattle.std.specs.Prelude.{◌≡◌, ℕ, suc, ◌<◌, Bool, true, cond, List, [], ◌∷◌, map, length, is_some, Some, None, Ok, Err, Option, Result, ◌==◌, nat_lt}
use Rattle.std.specs.Option.{unwrap_or}
use Rattle.std.specs.List.{AllByRecursion}
use Rattle.alphabets.specs.declared.alphabet.Alphabet.{Alphabet}
use Rattle.faults.specs.declared.fault.Cause.TheVariants.{CodeLength, NotASymbol}
use Rattle.faults.specs.declared.fault.Fault.{Fault}
use Rattle.alphabets.specs.Alphabets.{radix_of, symbol_of, byte_of}
use Rattle.faults.specs.Faults.{own, placed}
use Rattle.formats.specs.Forms.{Form}

pub record Code (f : Form) (code : List ℕ) : Type 0 where
  pub long : length code ≡ f.len
  pub symbols : AllByRecursion (λ x. x < radix_of f.alphabet) code

pub record Text (f : Form) (text : List ℕ) : Type 0 where
  pub long : length text ≡ f.len
  pub bytes : AllByRecursion (λ b. is_some (symbol_of f.alphabet b) ≡ true) text

-- counted from i
abbrev pub first_not : (ℕ → Bool) → ℕ → List ℕ → Option ℕ
first_not f i [] = None
first_not f i (x ∷ xs) = cond (f x) (first_not f (suc i) xs) (Some i)

abbrev pub writes : Alphabet → ℕ → Bool
writes a b = is_some (symbol_of a b)

abbrev pub is_symbol : Alphabet → ℕ → Bool
is_symbol a x = nat_lt x (radix_of a)

abbrev pub stray_byte : Alphabet → List ℕ → Option ℕ
stray_byte a text = first_not (writes a) 0 text

abbrev pub stray_symbol : Alphabet → List ℕ → Option ℕ
stray_symbol a code = first_not (is_symbol a) 0 code

-- the first stray is told by its place
abbrev pub verdict : Option ℕ → Result Unit Fault
verdict None = Ok tt
verdict (Some place) = Err (placed (own NotASymbol) place)

-- an answer that waits for the right length
abbrev pub fits : Form → List ℕ → Result Unit Fault → Result Unit Fault
fits f code answer = cond (length code == f.len) answer (Err (own CodeLength))

unfoldable pub code_verdict : Form → List ℕ → Result Unit Fault
code_verdict f code = fits f code (verdict (stray_symbol f.alphabet code))

unfoldable pub text_verdict : Form → List ℕ → Result Unit Fault
text_verdict f text = fits f text (verdict (stray_byte f.alphabet text))

-- what changes only where nothing is stray
abbrev pub unless_stray : Option ℕ → List ℕ → List ℕ → List ℕ
unless_stray None changed kept = changed
unless_stray (Some place) changed kept = kept

abbrev pub symbol_at : Alphabet → ℕ → ℕ
symbol_at a b = unwrap_or (symbol_of a b) 0

abbrev pub byte_at : Alphabet → ℕ → ℕ
byte_at a x = unwrap_or (byte_of a x) 0

unfoldable pub as_symbols : Alphabet → List ℕ → List ℕ
as_symbols a text = unless_stray (stray_byte a text) (map (symbol_at a) text) text

unfoldable pub as_bytes : Alphabet → List ℕ → List ℕ
as_bytes a code = unless_stray (stray_symbol a code) (map (byte_at a) code) code
