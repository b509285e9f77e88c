-- Hexadecimal: what digits spell, and how bytes are written. Assumes nothing.
--   digit_of   the value of a digit, where a byte is one
--   byte_of    the byte of two digits
--   bytes_of   the bytes of an even number of digits
--   block_of   the sixteen bytes of 32 digits
--   in_place   a text after its bytes were read where it stands
--   number_of  the number of 1 to 32 digits, the first digit highest
--   digits_of  the digits of bytes, in lower case
--   ReadsBack  what is written is read as what it was
use Rattle.std.specs.Prelude.{◌≡◌, ℕ, ◌+◌, ◌-◌, ◌*◌, ◌/◌, ◌%◌, ◌<◌, Bool, cond, ◌&&◌, List, [], ◌∷◌, ◌++◌, length, drop, Some, None, Option, ◌==◌, nat_le, nat_lt}
use Rattle.text.specs.declared.hex.Letters.{Letters}
use Rattle.text.specs.declared.hex.Letters.TheVariants.{Upper, Either}

-- n is low or high or between them
abbrev pub within : ℕ → ℕ → ℕ → Bool
within low high n = nat_le low n && nat_le n high

-- 0 to 9, and A to F
abbrev pub upper_digit : ℕ → Option ℕ
upper_digit b = cond (within 48 57 b) (Some (b - 48)) (cond (within 65 70 b) (Some (b - 65 + 10)) None)

-- a to f too
abbrev pub either_digit : ℕ → Option ℕ
either_digit b = cond (within 97 102 b) (Some (b - 97 + 10)) (upper_digit b)

unfoldable pub digit_of : Letters → ℕ → Option ℕ
digit_of Upper b = upper_digit b
digit_of Either b = either_digit b

-- f of two values, where both are there
abbrev pub both : {A B C : Type 0} → (A → B → C) → Option A → Option B → Option C
both f None y = None
both f (Some x) None = None
both f (Some x) (Some y) = Some (f x y)

unfoldable pub byte_of : Letters → ℕ → ℕ → Option ℕ
byte_of l high low = both (λ h d. 16 * h + d) (digit_of l high) (digit_of l low)

unfoldable pub bytes_of : Letters → List ℕ → Option (List ℕ)
bytes_of l [] = Some []
bytes_of l (high ∷ []) = None
bytes_of l (high ∷ low ∷ rest) = both (λ b bs. b ∷ bs) (byte_of l high low) (bytes_of l rest)

unfoldable pub block_of : Letters → List ℕ → Option (List ℕ)
block_of l text = cond (length text == 32) (bytes_of l text) None

-- a text whose first half makes way for the bytes that were read
unfoldable pub in_place : List ℕ → Option (List ℕ) → List ℕ
in_place text None = text
in_place text (Some bs) = bs ++ drop (length bs) text

-- the number of n and the digits after it
unfoldable pub number_from : Letters → Option ℕ → List ℕ → Option ℕ
number_from l n [] = n
number_from l n (b ∷ bs) = number_from l (both (λ m d. m * 16 + d) n (digit_of l b)) bs

unfoldable pub number_of : Letters → List ℕ → Option ℕ
number_of l text = cond (within 1 32 (length text)) (number_from l (Some 0) text) None

-- the digit of a value below 16
abbrev pub lower_digit : ℕ → ℕ
lower_digit n = cond (nat_lt n 10) (48 + n) (97 + (n - 10))

unfoldable pub digits_of : List ℕ → List ℕ
digits_of [] = []
digits_of (b ∷ bs) = lower_digit (b / 16) ∷ lower_digit (b % 16) ∷ digits_of bs

abbrev pub Bytes : List ℕ → Type 0
Bytes [] = Unit {0}
Bytes (b ∷ bs) = (b < 256) × Bytes bs

pub record ReadsBack : Type 0 where
  pub bytes : (bs : List ℕ) → Bytes bs → bytes_of Either (digits_of bs) ≡ Some bs
  pub block : (bs : List ℕ) → Bytes bs → length bs ≡ 16 → block_of Either (digits_of bs) ≡ Some bs
  -- a byte has two digits
  pub long : (bs : List ℕ) → length (digits_of bs) ≡ 2 * length bs
  -- a digit in upper case is one in either case too, and of the same value
  pub either : (b d : ℕ) → digit_of Upper b ≡ Some d → digit_of Either b ≡ Some d
