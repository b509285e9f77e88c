-- Coins from the key: the bits of 4,096 counter blocks. Assumes nothing.
--   key_bits   the coins for the pool of a radix, under the main key
--   remaining  the coins that wait in a source
--   coins_of   the answer of a call that makes a source, with its coins
--   coins_for  what that answer is
use Rattle.std.specs.Prelude.{ℕ, cond, List, Ok, Err, Result}
use Rattle.block_cipher.specs.Keyed.{key_of}
use Rattle.coins.specs.Coins.{bits_of, bits_from}
use Rattle.faults.specs.declared.fault.Cause.TheVariants.{Range}
use Rattle.faults.specs.declared.fault.Fault.{Fault}
use Rattle.faults.specs.Faults.{own}
use Rattle.keys.specs.declared.key_coins.KeyCoins.{KeyCoins}
use Rattle.keys.specs.Derived.{derived_key}
use Rattle.keys.specs.Encodings.{of_pool}
use Rattle.keys.specs.Sequences.{first_half, second_half, blocks, pooled}

-- the halves of the derived key are the AES key and the first counter, as they are
unfoldable pub key_bits : List ℕ → ℕ → List ℕ
key_bits main radix = let key = derived_key main (of_pool radix) in bits_of (blocks (first_half key) (second_half key) 4096)

abbrev pub remaining : KeyCoins → List ℕ
remaining s = bits_from s.taken (blocks (key_of s.aes) s.iv 4096)

abbrev pub coins_of : Result KeyCoins Fault → Result (List ℕ) Fault
coins_of (Ok s) = Ok (remaining s)
coins_of (Err fault) = Err fault

abbrev pub coins_for : List ℕ → ℕ → Result (List ℕ) Fault
coins_for main radix = cond (pooled radix) (Ok (key_bits main radix)) (Err (own Range))
