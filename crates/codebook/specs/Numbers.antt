-- Codes as numbers, the first symbol highest. Assumes nothing.
--   number      the number that a code reads as, over a radix
--   written     the code of a length that a number is written as
--   code_count  how many codes a form has
--   most_codes  the most codes that a codebook can have
--   few_codes   the count, where a codebook can have so many codes
--   Numbering   codes of a length and the numbers below their count go one to one
use Rattle.std.specs.Prelude.{◌≡◌, ℕ, zero, suc, ◌+◌, ◌*◌, ◌/◌, ◌%◌, ◌^◌, ◌<◌, List, [], ◌∷◌, length, Option}
use Rattle.std.specs.List.{AllByRecursion}
pub use Rattle.std.specs.Int.Digits.{number_from_digits as number}
use Rattle.formats.specs.Forms.{Form, counted}
pub use Rattle.formats.specs.Forms.{code_count}

-- the symbol with n symbols after it counts the n-th power of the radix
unfoldable pub written : ℕ → ℕ → ℕ → List ℕ
written a zero v = []
written a (suc n) v = v / a ^ n % a ∷ written a n v

abbrev pub most_codes : ℕ
most_codes = 4096

abbrev pub few_codes : Form → Option ℕ
few_codes f = counted f most_codes

pub record Numbering (a n : ℕ) : Type 0 where
  -- the first symbol counts highest
  pub first : (x : ℕ) (c : List ℕ) → number a (x ∷ c) ≡ x * a ^ length c + number a c
  -- a code reads as a number below the count, and is what that number is written as
  pub below : (c : List ℕ) → length c ≡ n → AllByRecursion (λ x. x < a) c → number a c < a ^ n
  pub again : (c : List ℕ) → length c ≡ n → AllByRecursion (λ x. x < a) c → written a n (number a c) ≡ c
  -- each number below the count is written as a code, and is what that code reads as
  pub long : (v : ℕ) → length (written a n v) ≡ n
  pub symbols : (v : ℕ) → 0 < a → AllByRecursion (λ x. x < a) (written a n v)
  pub back : (v : ℕ) → 0 < a → v < a ^ n → number a (written a n v) ≡ v
