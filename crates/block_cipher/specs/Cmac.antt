-- CMAC with AES-128 as SP 800-38B defines it, with its full sixteen bytes. Assumes nothing.
--   subkey1, subkey2  the two subkeys of a key
--   last_block        the last block of a message, complete or padded, with its subkey
--   cmac              the tag of a message under a key
use Rattle.std.specs.Prelude.{ℕ, zero, suc, ◌-◌, ◌*◌, ◌/◌, ◌%◌, ◌^◌, cond, List, ◌∷◌, ◌++◌, length, take, drop, replicate, ◌==◌, bit_xor, nat_lt}
use Rattle.block_cipher.specs.Aes.{xor_block, cipher}
use Rattle.block_cipher.specs.Counter.{number, bytes16}

abbrev pub zeros : List ℕ
zeros = replicate 16 0

-- the bits of x moved one place to the left
abbrev pub shift_left : ℕ → ℕ
shift_left x = x * 2 % 2 ^ 128

-- L << 1, and where the highest bit of L is 1, xor 87
abbrev pub doubled : ℕ → ℕ
doubled l = cond (nat_lt l (2 ^ 127)) (shift_left l) (bit_xor (shift_left l) 0x87)

unfoldable pub subkey1 : List ℕ → List ℕ
subkey1 key = bytes16 (doubled (number (cipher key zeros)))

unfoldable pub subkey2 : List ℕ → List ℕ
subkey2 key = bytes16 (doubled (number (subkey1 key)))

-- a 1 and as many zeros as fill the block
abbrev pub padded : List ℕ → List ℕ
padded m = m ++ (0x80 ∷ replicate (15 - length m) 0)

-- m is the last part of the message: sixteen bytes, or fewer
unfoldable pub last_block : List ℕ → List ℕ → List ℕ
last_block key m = cond (length m == 16) (xor_block (subkey1 key) m) (xor_block (subkey2 key) (padded m))

-- from the chaining value c, with n blocks of m before the last one
unfoldable pub chained : List ℕ → List ℕ → ℕ → List ℕ → List ℕ
chained key c zero m = cipher key (xor_block c (last_block key m))
chained key c (suc n) m = chained key (cipher key (xor_block c (take 16 m))) n (drop 16 m)

-- how many blocks stand before the last one of a message of some length
abbrev pub before : ℕ → ℕ
before len = (len - 1) / 16

unfoldable pub cmac : List ℕ → List ℕ → List ℕ
cmac key m = chained key zeros (before (length m)) m
