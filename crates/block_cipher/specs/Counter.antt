-- Counter blocks: the encryptions of IV, IV + 1 and so on, modulo 2^128. Assumes nothing.
--   number         the number that bytes spell, the first byte highest
--   bytes16        the sixteen bytes of a number below 2^128
--   counter_block  the encryption of IV + i
use Rattle.std.specs.Prelude.{ℕ, ◌+◌, ◌-◌, ◌*◌, ◌/◌, ◌%◌, ◌^◌, List, [], ◌∷◌}
use Rattle.block_cipher.specs.Aes.{block, cipher}

abbrev pub number_from : ℕ → List ℕ → ℕ
number_from n [] = n
number_from n (b ∷ bs) = number_from (n * 256 + b) bs

abbrev pub number : List ℕ → ℕ
number bs = number_from 0 bs

abbrev pub bytes16 : ℕ → List ℕ
bytes16 n = block (λ k. n / 256 ^ (15 - k) % 256)

unfoldable pub counter_block : List ℕ → List ℕ → ℕ → List ℕ
counter_block key iv i = cipher key (bytes16 ((number iv + i) % 2 ^ 128))
