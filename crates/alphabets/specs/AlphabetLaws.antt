-- What the alphabets are held to. Assumes nothing.
--   OneToOne  an alphabet's symbols and the bytes that write them go one to one
use Rattle.std.specs.Prelude.{◌≡◌, ℕ, ◌<◌, length, Some}
use Rattle.alphabets.specs.declared.alphabet.Alphabet.{Alphabet}
use Rattle.alphabets.specs.Alphabets.{bytes_of, radix_of, letter_of, alphabet_of, symbol_of, byte_of}

pub record OneToOne (a : Alphabet) : Type 0 where
  -- its letter names it, and no other letter does
  pub named : alphabet_of (letter_of a) ≡ Some a
  pub alone : (letter : ℕ) → alphabet_of letter ≡ Some a → letter ≡ letter_of a
  -- it has as many bytes as symbols
  pub counted : length (bytes_of a) ≡ radix_of a
  -- a symbol is below the radix, and each number below the radix is one
  pub below : (b x : ℕ) → symbol_of a b ≡ Some x → x < radix_of a
  pub each : (x : ℕ) → x < radix_of a → (b : ℕ) × (byte_of a x ≡ Some b)
  -- a byte writes the symbol that it is written for, and the other way round
  pub written : (b x : ℕ) → symbol_of a b ≡ Some x → byte_of a x ≡ Some b
  pub read : (b x : ℕ) → byte_of a x ≡ Some b → symbol_of a b ≡ Some x
