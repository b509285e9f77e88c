-- Index sequences: the bytes of AES in counter mode under a derived key. Assumes nothing.
--   sequence_list            the list of a sequence: its branch distances are those of its length
--   first_half, second_half  the two halves of a derived key
--   start_of                 the counter to start from: the second half, its last two bytes set to 0
--   blocks                   so many counter blocks, one after the other
--   stream                   so many bytes of them
--   index_sequence           the index sequence
--   InOrder                  where each byte of a stream comes from
--   pooled                   whether there are pools of a radix: 4 to 64
--   layered                  whether a size is a number of layers of a length
--   sized                    whether a radix, a length and a size are in range
--   sequence_verdict         the answer to a call
--   indices_left             what its slice holds then
use Rattle.std.specs.Prelude.{◌≡◌, ℕ, zero, suc, ◌+◌, ◌/◌, ◌%◌, ◌<◌, Bool, cond, ◌&&◌, List, [], ◌∷◌, ◌++◌, length, take, drop, Err, Result, ◌==◌, nat_le, slice_index}
use Rattle.block_cipher.specs.Counter.{counter_block}
use Rattle.faults.specs.declared.fault.Cause.TheVariants.{Range}
use Rattle.faults.specs.declared.fault.Fault.{Fault}
use Rattle.faults.specs.Faults.{own}
use Rattle.alphabets.specs.RunNames.{legal, name_verdict}
use Rattle.keys.specs.declared.label.Sequence.{Sequence}
use Rattle.keys.specs.Derived.{derived_key}
use Rattle.keys.specs.Distances.{w_of, w'_of}
use Rattle.keys.specs.Encodings.{Purpose, of_sequence}

unfoldable pub sequence_list : Sequence → ℕ → ℕ → ℕ → List ℕ → Purpose
sequence_list s radix len layers run =
    of_sequence s radix (record { len = len; layers = layers; w = w_of len; w' = w'_of len; run = run })

abbrev pub first_half : List ℕ → List ℕ
first_half key = take 16 key

abbrev pub second_half : List ℕ → List ℕ
second_half key = drop 16 key

abbrev pub start_of : List ℕ → List ℕ
start_of key = take 14 (second_half key) ++ 0 ∷ 0 ∷ []

unfoldable pub blocks : List ℕ → List ℕ → ℕ → List ℕ
blocks key iv zero = []
blocks key iv (suc n) = blocks key iv n ++ counter_block key iv n

-- n bytes lie in as many blocks as n sixteenths, rounded up
unfoldable pub stream : List ℕ → List ℕ → ℕ → List ℕ
stream key iv n = take n (blocks key iv ((n + 15) / 16))

-- under the main key, for n layers
unfoldable pub index_sequence : List ℕ → Sequence → ℕ → ℕ → List ℕ → ℕ → List ℕ
index_sequence main s radix len run n =
    let key = derived_key main (sequence_list s radix len n run) in stream (first_half key) (start_of key) n

abbrev pub pooled : ℕ → Bool
pooled radix = nat_le 4 radix && nat_le radix 64

-- a multiple of the length from the length to 2,048
abbrev pub layered : ℕ → ℕ → Bool
layered len size = size % len == 0 && (nat_le len size && nat_le size 2048)

-- the length is 2 to 32
abbrev pub sized : ℕ → ℕ → ℕ → Bool
sized radix len size = pooled radix && ((nat_le 2 len && nat_le len 32) && layered len size)

abbrev pub sequence_verdict : ℕ → ℕ → List ℕ → ℕ → Result Unit Fault
sequence_verdict radix len run size = cond (sized radix len size) (name_verdict run) (Err (own Range))

-- after a refusal the slice is as it was
abbrev pub indices_left : List ℕ → Sequence → ℕ → ℕ → List ℕ → List ℕ → List ℕ
indices_left main s radix len run old =
    cond (sized radix len (length old) && legal run) (index_sequence main s radix len run (length old)) old

-- as many bytes as asked for, and each from its place in its block
pub record InOrder (key iv : List ℕ) (n : ℕ) : Type 0 where
  pub long : length (stream key iv n) ≡ n
  pub each : (j : ℕ) → j < n → slice_index (stream key iv n) j ≡ slice_index (counter_block key iv (j / 16)) (j % 16)
