-- AES-128 as FIPS 197 defines it, encryption only. Assumes nothing.
--   block                                               sixteen bytes, from a function of their places
--   sub_bytes, shift_rows, mix_columns, add_round_key   the four steps of a round
--   sub_word, rot_word, rcon, round_key, key_expansion  the key schedule
--   cipher                                              the encryption of a block under a key
-- A state, a round key and a block are lists of 16 bytes; byte r + 4 c of a state is in row r and column c.
use Rattle.std.specs.Prelude.{ℕ, zero, suc, ◌+◌, ◌*◌, ◌/◌, ◌%◌, List, [], ◌∷◌, ◌++◌, bit_xor, slice_index}
use Rattle.block_cipher.specs.Field.{mul, sbox, x_times}

abbrev pub block : (ℕ → ℕ) → List ℕ
block f =
    f 0 ∷ f 1 ∷ f 2 ∷ f 3 ∷ f 4 ∷ f 5 ∷ f 6 ∷ f 7 ∷ f 8 ∷ f 9 ∷ f 10 ∷ f 11 ∷ f 12 ∷ f 13 ∷ f 14 ∷ f 15 ∷ []

abbrev pub sub_bytes : List ℕ → List ℕ
sub_bytes s = block (λ k. sbox (slice_index s k))

-- row r moves r places to the left
abbrev pub shift_rows : List ℕ → List ℕ
shift_rows s = block (λ k. slice_index s ((k + 4 * (k % 4)) % 16))

-- the byte that stands i rows below place k in its column, counted round
abbrev pub below : List ℕ → ℕ → ℕ → ℕ
below s k i = slice_index s (k / 4 * 4 + (k + i) % 4)

-- one row of the matrix of MixColumns, 2 3 1 1
abbrev pub mix_row : ℕ → ℕ → ℕ → ℕ → ℕ
mix_row a b c d = bit_xor (bit_xor (bit_xor (mul a 2) (mul b 3)) c) d

abbrev pub mix_columns : List ℕ → List ℕ
mix_columns s = block (λ k. mix_row (below s k 0) (below s k 1) (below s k 2) (below s k 3))

abbrev pub xor_block : List ℕ → List ℕ → List ℕ
xor_block s t = block (λ k. bit_xor (slice_index s k) (slice_index t k))

abbrev pub add_round_key : List ℕ → List ℕ → List ℕ
add_round_key s w = xor_block s w

-- The key schedule works on words of four bytes.
abbrev pub word : List ℕ → ℕ → List ℕ
word w i = slice_index w (4 * i) ∷ slice_index w (4 * i + 1) ∷ slice_index w (4 * i + 2) ∷ slice_index w (4 * i + 3) ∷ []

abbrev pub xor_word : List ℕ → List ℕ → List ℕ
xor_word u v =
    bit_xor (slice_index u 0) (slice_index v 0) ∷ bit_xor (slice_index u 1) (slice_index v 1) ∷ bit_xor (slice_index u 2) (slice_index v 2)
    ∷ bit_xor (slice_index u 3) (slice_index v 3)
    ∷ []

abbrev pub sub_word : List ℕ → List ℕ
sub_word w = sbox (slice_index w 0) ∷ sbox (slice_index w 1) ∷ sbox (slice_index w 2) ∷ sbox (slice_index w 3) ∷ []

abbrev pub rot_word : List ℕ → List ℕ
rot_word w = slice_index w 1 ∷ slice_index w 2 ∷ slice_index w 3 ∷ slice_index w 0 ∷ []

-- the round constants, the powers of x: 1 and then each the one before times x
unfoldable pub rcon : ℕ → ℕ
rcon zero = 1
rcon (suc i) = x_times (rcon i)

abbrev pub rcon_word : ℕ → List ℕ
rcon_word c = c ∷ 0 ∷ 0 ∷ 0 ∷ []

-- the next four words: each is the word four before it xor the word before it, which at the first of the four
-- goes through RotWord, SubWord and the round constant c
abbrev pub next_round_key : List ℕ → ℕ → List ℕ
next_round_key w c =
    let w0 = xor_word (word w 0) (xor_word (sub_word (rot_word (word w 3))) (rcon_word c)) in
    let w1 = xor_word (word w 1) w0 in
    let w2 = xor_word (word w 2) w1 in
    let w3 = xor_word (word w 3) w2 in
    w0 ++ (w1 ++ (w2 ++ w3))

-- words 4 i to 4 i + 3 of the expanded key
unfoldable pub round_key : List ℕ → ℕ → List ℕ
round_key key zero = key
round_key key (suc i) = next_round_key (round_key key i) (rcon i)

-- the eleven round keys, which the ten rounds and the step before them use
abbrev pub key_expansion : List ℕ → List (List ℕ)
key_expansion key =
    round_key key 0 ∷ round_key key 1 ∷ round_key key 2 ∷ round_key key 3 ∷ round_key key 4 ∷ round_key key 5 ∷ round_key key 6
    ∷ round_key key 7
    ∷ round_key key 8
    ∷ round_key key 9
    ∷ round_key key 10
    ∷ []

-- the state after i rounds from s
unfoldable pub rounds : List ℕ → List ℕ → ℕ → List ℕ
rounds key s zero = s
rounds key s (suc i) = add_round_key (mix_columns (shift_rows (sub_bytes (rounds key s i)))) (round_key key (suc i))

-- the last of the ten rounds has no MixColumns
unfoldable pub cipher : List ℕ → List ℕ → List ℕ
cipher key input =
    add_round_key (shift_rows (sub_bytes (rounds key (add_round_key input (round_key key 0)) 9))) (round_key key 10)
