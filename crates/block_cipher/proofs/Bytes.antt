-- What the cipher, its tags and its counter blocks give are bytes. Assumes nothing.
use Rattle.std.proofs.Common.{ℕ, zero, suc, map, ◌+◌, ◌*◌, ◌/◌, ◌%◌, ◌^◌, ◌<◌, ◌≤◌, List, [], ◌∷◌, ◌++◌, get_or, take, drop, sym, subst, mod-lt, mul-le-mul_left, pow-suc, mul-one, arith, lit<}
use lib.Bits.{bit_xor, xor_lt}
use Rattle.std.specs.List.{AllByRecursion}
use Rattle.std.proofs.ByRecursion.{All-append}
use Rattle.block_cipher.specs.Field.{x_times, affine_bit, from_bits, affine, sbox, inverse}
use Rattle.block_cipher.specs.Aes.{block, sub_bytes, shift_rows, xor_block, add_round_key, word, xor_word, sub_word, rot_word, rcon_word, next_round_key, rcon, round_key, rounds, cipher}
use Rattle.block_cipher.specs.Counter.{counter_block}
use Rattle.block_cipher.specs.Cmac.{chained, cmac, last_block}
use Rattle.block_cipher.specs.Words.{quad, bytes_of}
use Rattle.block_cipher.specs.declared.columns.Columns.{Columns}
use Rattle.block_cipher.specs.Keyed.{key_of}
use Rattle.block_cipher.specs.MacKey.{mac_key_of}
use Rattle.block_cipher.specs.declared.cmac.Cmac.{Cmac}

abbrev pub Bytes : List ℕ → Type 0
Bytes xs = AllByRecursion (λ x. x < 256) xs

pub xor_byte : (a b : ℕ) → a < 256 → b < 256 → bit_xor a b < 256
xor_byte a b ha hb = xor_lt 8 a b ha hb

-- a byte of bytes, and 0 past their end
pub at : (xs : List ℕ) (k : ℕ) → Bytes xs → get_or xs k 0 < 256
at [] k h = lit< tt
at (x ∷ xs) zero h = h.0
at (x ∷ xs) (suc k) h = at xs k h.1

from_bits_lem : (n : ℕ) (f : ℕ → ℕ) → ((i : ℕ) → f i < 2) → from_bits n f < 2 ^ n
unfolding from_bits
from_bits_lem zero f h = lit< tt
from_bits_lem (suc n) f h =
    let low : from_bits n f < 2 ^ n = from_bits_lem n f h in
    let bit-one : f n ≤ 1 = omega (arith, h n) in
    let one : 2 ^ n * f n ≤ 2 ^ n * 1 = mul-le-mul_left (2 ^ n) bit-one in
    subst (λ (m : ℕ). from_bits n f + 2 ^ n * f n < m) (sym (pow-suc 2 n)) (omega (arith, low, one, mul-one (2 ^ n)))

sbox_byte : (b : ℕ) → sbox b < 256
unfolding sbox affine affine_bit
sbox_byte b = from_bits_lem 8 (λ i. affine_bit (inverse b) i) (λ i. mod-lt _ (lit< tt))

pub sixteen : (f : ℕ → ℕ) → ((k : ℕ) → f k < 256) → Bytes (block f)
sixteen f h = (h 0, (h 1, (h 2, (h 3, (h 4, (h 5, (h 6, (h 7, (h 8, (h 9, (h 10, (h 11, (h 12, (h 13, (h 14, (h 15, tt))))))))))))))))

word_bytes : (w : List ℕ) (i : ℕ) → Bytes w → Bytes (word w i)
word_bytes w i h = (at w (4 * i) h, (at w (4 * i + 1) h, (at w (4 * i + 2) h, (at w (4 * i + 3) h, tt))))

xor_word_lem : (u v : List ℕ) → Bytes u → Bytes v → Bytes (xor_word u v)
xor_word_lem u v hu hv =
    let one : (k : ℕ) → bit_xor (get_or u k 0) (get_or v k 0) < 256 = λ k. xor_byte (get_or u k 0) (get_or v k 0) (at u k hu) (at v k hv) in
    (one 0, (one 1, (one 2, (one 3, tt))))

sub_word_lem : (w : List ℕ) → Bytes (sub_word w)
sub_word_lem w = (sbox_byte (get_or w 0 0), (sbox_byte (get_or w 1 0), (sbox_byte (get_or w 2 0), (sbox_byte (get_or w 3 0), tt))))

rcon_byte : (i : ℕ) → rcon i < 256
unfolding rcon x_times
rcon_byte zero = lit< tt
rcon_byte (suc i) =
    let b = rcon i in
    let h : b < 256 = rcon_byte i in
    xor_byte (2 * b % 256) (b / 128 * 0x1b) (mod-lt (2 * b) (lit< tt)) (omega (arith, h))

next_bytes : (w : List ℕ) (c : ℕ) → Bytes w → c < 256 → Bytes (next_round_key w c)
next_bytes w c h hc =
    let t = xor_word (sub_word (rot_word (word w 3))) (rcon_word c) in
    let ht : Bytes t = xor_word_lem (sub_word (rot_word (word w 3))) (rcon_word c) (sub_word_lem (rot_word (word w 3))) (hc, (lit< tt, (lit< tt, (lit< tt, tt)))) in
    let w0 = xor_word (word w 0) t in
    let h0 : Bytes w0 = xor_word_lem (word w 0) t (word_bytes w 0 h) ht in
    let w1 = xor_word (word w 1) w0 in
    let h1 : Bytes w1 = xor_word_lem (word w 1) w0 (word_bytes w 1 h) h0 in
    let w2 = xor_word (word w 2) w1 in
    let h2 : Bytes w2 = xor_word_lem (word w 2) w1 (word_bytes w 2 h) h1 in
    let w3 = xor_word (word w 3) w2 in
    let h3 : Bytes w3 = xor_word_lem (word w 3) w2 (word_bytes w 3 h) h2 in
    let P : ℕ → Type 0 = λ x. x < 256 in
    All-append P w0 (w1 ++ (w2 ++ w3)) h0 (All-append P w1 (w2 ++ w3) h1 (All-append P w2 w3 h2 h3))

round_key_bytes : (key : List ℕ) (i : ℕ) → Bytes key → Bytes (round_key key i)
unfolding round_key
round_key_bytes key zero h = h
round_key_bytes key (suc i) h = next_bytes (round_key key i) (rcon i) (round_key_bytes key i h) (rcon_byte i)

sub_bytes_lem : (s : List ℕ) → Bytes (sub_bytes s)
sub_bytes_lem s = sixteen (λ k. sbox (get_or s k 0)) (λ k. sbox_byte (get_or s k 0))

shift_bytes : (s : List ℕ) → Bytes s → Bytes (shift_rows s)
shift_bytes s h = sixteen (λ k. get_or s ((k + 4 * (k % 4)) % 16) 0) (λ k. at s ((k + 4 * (k % 4)) % 16) h)

add_bytes : (s k : List ℕ) → Bytes s → Bytes k → Bytes (add_round_key s k)
add_bytes s k hs hk = sixteen (λ j. bit_xor (get_or s j 0) (get_or k j 0)) (λ j. xor_byte (get_or s j 0) (get_or k j 0) (at s j hs) (at k j hk))

pub cipher_bytes : (key input : List ℕ) → Bytes key → Bytes (cipher key input)
unfolding cipher
cipher_bytes key input h =
    let r = rounds key (add_round_key input (round_key key 0)) 9 in
    add_bytes (shift_rows (sub_bytes r)) (round_key key 10) (shift_bytes (sub_bytes r) (sub_bytes_lem r)) (round_key_bytes key 10 h)

pub counter_bytes : (key iv : List ℕ) (i : ℕ) → Bytes key → Bytes (counter_block key iv i)
unfolding counter_block
counter_bytes key iv i h = cipher_bytes key _ h

chained_bytes : (key c : List ℕ) (n : ℕ) (m : List ℕ) → Bytes key → Bytes (chained key c n m)
unfolding chained
chained_bytes key c zero m h = cipher_bytes key (xor_block c (last_block key m)) h
chained_bytes key c (suc n) m h = chained_bytes key (cipher key (xor_block c (take 16 m))) n (drop 16 m) h

pub cmac_bytes : (key m : List ℕ) → Bytes key → Bytes (cmac key m)
unfolding cmac
cmac_bytes key m h = chained_bytes key _ _ m h

quad_bytes : (w : ℕ) → Bytes (quad w)
quad_bytes w = (mod-lt w (lit< tt), (mod-lt (w / 256) (lit< tt), (mod-lt (w / 65536) (lit< tt), (mod-lt (w / 16777216) (lit< tt), tt))))

first_bytes : (ks : List Columns) → Bytes (get_or (map bytes_of ks) 0 [])
first_bytes [] = tt
first_bytes (s ∷ ks) =
    let P : ℕ → Type 0 = λ x. x < 256 in
    All-append P (quad s.a) (quad s.b ++ (quad s.c ++ quad s.d)) (quad_bytes s.a) (All-append P (quad s.b) (quad s.c ++ quad s.d) (quad_bytes s.b) (All-append P (quad s.c) (quad s.d) (quad_bytes s.c) (quad_bytes s.d)))

pub mac_key_bytes : (m : Cmac) → Bytes (mac_key_of m)
unfolding mac_key_of key_of
mac_key_bytes m = first_bytes m.cipher.round_keys
