-- The field of 256 elements and the S-box by its rule, as FIPS 197 defines them. Assumes nothing.
--   x_times  a byte times x
--   mul      the product of two bytes
--   inverse  the number whose product with a byte is 1, and 0 at 0
--   affine   the affine step
--   sbox     the S-box: the inverse, then the affine step
-- A byte is the number of its bits, and stands for the polynomial with these coefficients.
use Rattle.std.specs.Prelude.{◌≡◌, ℕ, zero, suc, ◌+◌, ◌*◌, ◌/◌, ◌%◌, ◌^◌, ◌<◌, bit_xor}

-- times x, modulo x^8 + x^4 + x^3 + x + 1
unfoldable pub x_times : ℕ → ℕ
x_times b = bit_xor (2 * b % 256) (b / 128 * 0x1b)

-- the product of b and the polynomial of the n lowest bits of c
unfoldable pub mul_low : ℕ → ℕ → ℕ → ℕ
unfolding x_times
mul_low zero b c = 0
mul_low (suc n) b c = bit_xor (c % 2 * b) (x_times (mul_low n b (c / 2)))

unfoldable pub mul : ℕ → ℕ → ℕ
unfolding mul_low
mul b c = mul_low 8 b c

unfoldable pub square : ℕ → ℕ
square b = mul b b

-- b^2 b^4 .. b^(2^n)
unfoldable pub squares : ℕ → ℕ → ℕ
squares zero b = 1
squares (suc n) b = mul (square b) (squares n (square b))

-- b^254
unfoldable pub inverse : ℕ → ℕ
inverse b = squares 7 b

-- bit i of b, counted round
unfoldable pub bit : ℕ → ℕ → ℕ
bit b i = b / 2 ^ (i % 8) % 2

-- bit i of the affine step, whose constant is 63
unfoldable pub affine_bit : ℕ → ℕ → ℕ
affine_bit b i = (bit b i + bit b (i + 4) + bit b (i + 5) + bit b (i + 6) + bit b (i + 7) + bit 0x63 i) % 2

-- the number whose n lowest bits f gives
unfoldable pub from_bits : ℕ → (ℕ → ℕ) → ℕ
from_bits zero f = 0
from_bits (suc n) f = from_bits n f + 2 ^ n * f n

unfoldable pub affine : ℕ → ℕ
affine b = from_bits 8 (λ i. affine_bit b i)

unfoldable pub sbox : ℕ → ℕ
sbox b = affine (inverse b)

-- `inverse` is the inverse: every number but 0 times its inverse is 1
abbrev pub Inverts : ℕ → Type 0
Inverts b = 0 < b → mul b (inverse b) ≡ 1
