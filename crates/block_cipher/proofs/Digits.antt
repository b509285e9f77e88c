-- Blocks as numbers: bytes lowest first and highest first, in words and whole. Assumes nothing.
use Rattle.std.proofs.Common.{◌≡◌, ℕ, ◌+◌, ◌-◌, ◌*◌, ◌/◌, ◌%◌, ◌^◌, ◌<◌, List, [], ◌∷◌, ◌++◌, length, get_or, replicate, sym, refl, ap, ◌∙◌, mod-eq_of_lt, div-one, arith, lit<}
use lib.Bits.{bit_and, bit_xor, and_mask, xor_shr, xor_mod}
use borrow.Rule.Slice.PartMut.{put_mid}
use Rattle.std.specs.Int.{w128, from_le_bytes, to_be_bytes, swap_bytes}
use Rattle.std.proofs.lemmas.Nat.{field_of, mod-pow-add, mod-mul-add, div-mul-add, mod_below, shr-shr}
use Rattle.block_cipher.specs.Aes.{block, xor_block, cipher}
use Rattle.block_cipher.specs.Counter.{number, bytes16, counter_block}
use Rattle.block_cipher.specs.Words.{quad, little16}
use Rattle.block_cipher.proofs.Quads.{whole, word_of, join4, quad_word}
use Rattle.block_cipher.proofs.Bytes.{at, sixteen}

-- what `from_be_bytes` answers
abbrev pub sum16 : List ℕ → ℕ
sum16 xs = get_or xs 0 0 * 1329227995784915872903807060280344576 + get_or xs 1 0 * 5192296858534827628530496329220096 + get_or xs 2 0 * 20282409603651670423947251286016 + get_or xs 3 0 * 79228162514264337593543950336 + get_or xs 4 0 * 309485009821345068724781056 + get_or xs 5 0 * 1208925819614629174706176 + get_or xs 6 0 * 4722366482869645213696 + get_or xs 7 0 * 18446744073709551616 + get_or xs 8 0 * 72057594037927936 + get_or xs 9 0 * 281474976710656 + get_or xs 10 0 * 1099511627776 + get_or xs 11 0 * 4294967296 + get_or xs 12 0 * 16777216 + get_or xs 13 0 * 65536 + get_or xs 14 0 * 256 + get_or xs 15 0

pub sum_number : (xs : List ℕ) → length xs ≡ 16 → sum16 xs ≡ number xs
sum_number xs h = let e : sum16 xs ≡ number (block (λ k. get_or xs k 0)) = omega arith in e ∙ ap number (whole xs h)

pub counted : (key iv b out : List ℕ) (n i : ℕ) → length iv ≡ 16 → n ≡ sum16 iv → b ≡ bytes16 ((n + i) % 2 ^ 128) → out ≡ cipher key b → out ≡ counter_block key iv i
unfolding counter_block
counted key iv b out n i h en eb eo = eo ∙ ap (cipher key) (eb ∙ ap (λ m. bytes16 ((m + i) % 2 ^ 128)) (en ∙ sum_number iv h))

digit_xor : (m n s : ℕ) → bit_xor m n / 2 ^ s % 2 ^ 8 ≡ bit_xor (m / 2 ^ s % 2 ^ 8) (n / 2 ^ s % 2 ^ 8)
digit_xor m n s = ap (λ x. x % 2 ^ 8) (xor_shr m n s) ∙ xor_mod (m / 2 ^ s) (n / 2 ^ s) 8

pub little_xor : (m n : ℕ) → little16 (bit_xor m n) ≡ xor_block (little16 m) (little16 n)
little_xor m n =
    cc (digit_xor m n 0, digit_xor m n 8, digit_xor m n 16, digit_xor m n 24, digit_xor m n 32, digit_xor m n 40, digit_xor m n 48, digit_xor m n 56, digit_xor m n 64, digit_xor m n 72, digit_xor m n 80, digit_xor m n 88, digit_xor m n 96, digit_xor m n 104, digit_xor m n 112, digit_xor m n 120)

-- the bytes of a word are those of any number that it is the low part of
digit : (m j k : ℕ) → m % 2 ^ (j + 8 + k) / 2 ^ k % 2 ^ 8 ≡ m / 2 ^ k % 2 ^ 8
digit m j k =
    ap (λ n. n % 2 ^ 8) (field_of m (j + 8) k ∙ mod-pow-add (m / 2 ^ k) j 8) ∙ mod-mul-add (m / 2 ^ k / 2 ^ 8 % 2 ^ j) (2 ^ 8) (m / 2 ^ k % 2 ^ 8) (mod_below (m / 2 ^ k) (2 ^ 8) (lit< tt))

digit_first : (m : ℕ) → m % 4294967296 % 256 ≡ m % 256
digit_first m = ap (λ n. n % 256) (mod-pow-add m 24 8) ∙ mod-mul-add (m / 256 % 2 ^ 24) 256 (m % 256) (mod_below m 256 (lit< tt))

quad_low : (m : ℕ) → quad (m % 4294967296) ≡ quad m
quad_low m = word_of refl (digit_first m) (digit m 16 8) (digit m 8 16) (digit m 0 24)

-- the four words of a number
parts : (n : ℕ) → quad (n % 4294967296) ++ (quad (n / 2 ^ 32 % 4294967296) ++ (quad (n / 2 ^ 64 % 4294967296) ++ quad (n / 2 ^ 96 % 4294967296))) ≡ little16 n
parts n =
    let part : (s k : ℕ) → n / 2 ^ s / 2 ^ k % 256 ≡ n / 2 ^ (s + k) % 256 = λ s k. ap (λ m. m % 256) (shr-shr n s k) in
    join4 (word_of (quad_low n) (ap (λ m. m % 256) (sym (div-one n))) refl refl refl)
    (word_of (quad_low (n / 2 ^ 32)) refl (part 32 8) (part 32 16) (part 32 24))
    (word_of (quad_low (n / 2 ^ 64)) refl (part 64 8) (part 64 16) (part 64 24))
    (word_of (quad_low (n / 2 ^ 96)) refl (part 96 8) (part 96 16) (part 96 24))

pub split_is : (n : ℕ) → quad (bit_and n 4294967295) ++ (quad (bit_and (n / 2 ^ 32) 4294967295) ++ (quad (bit_and (n / 2 ^ 64) 4294967295) ++ quad (bit_and (n / 2 ^ 96) 4294967295))) ≡ little16 n
split_is n =
    let low : (m : ℕ) → quad (bit_and m 4294967295) ≡ quad (m % 4294967296) = λ m. ap quad (and_mask m 32) in
    join4 (low n) (low (n / 2 ^ 32)) (low (n / 2 ^ 64)) (low (n / 2 ^ 96)) ∙ parts n

-- a number of k words and one more below them
module _ (a m n : ℕ) (h : a < 4294967296) (e : n ≡ m * 4294967296 + a) where
  low : n % 4294967296 ≡ a
  low = ap (λ x. x % 4294967296) e ∙ mod-mul-add m 4294967296 a h

  rest : n / 2 ^ 32 ≡ m
  rest = ap (λ x. x / 4294967296) e ∙ div-mul-add m 4294967296 a h

of_words : (n a b c d : ℕ) → a < 2 ^ 32 → b < 2 ^ 32 → c < 2 ^ 32 → d < 2 ^ 32
    → n ≡ a + b * 2 ^ 32 + c * 2 ^ 64 + d * 2 ^ 96
    → little16 n ≡ quad a ++ (quad b ++ (quad c ++ quad d))
of_words n a b c d ha hb hc hd e =
    let m2 = d * 4294967296 + c in
    let m1 = m2 * 4294967296 + b in
    let en : n ≡ m1 * 4294967296 + a = omega (arith, e) in
    let r1 : n / 2 ^ 32 ≡ m1 = rest a m1 n ha en in
    let r2 : n / 2 ^ 64 ≡ m2 = sym (shr-shr n 32 32) ∙ (ap (λ x. x / 2 ^ 32) r1 ∙ rest b m2 m1 hb refl) in
    let r3 : n / 2 ^ 96 ≡ d = sym (shr-shr n 64 32) ∙ (ap (λ x. x / 2 ^ 32) r2 ∙ rest c d m2 hc refl) in
    sym (parts n)
    ∙ join4 (ap quad (low a m1 n ha en)) (ap quad (low b m2 (n / 2 ^ 32) hb r1)) (ap quad (low c d (n / 2 ^ 64) hc r2)) (ap quad (ap (λ x. x % 4294967296) r3 ∙ mod-eq_of_lt hd))

-- the number of columns
pub join_is : (n a b c d : ℕ) → a < 2 ^ 32 → b < 2 ^ 32 → c < 2 ^ 32 → d < 2 ^ 32
    → n ≡ a + b * 2 ^ 32 % 2 ^ 128 + c * 2 ^ 64 % 2 ^ 128 + d * 2 ^ 96 % 2 ^ 128
    → little16 n ≡ quad a ++ (quad b ++ (quad c ++ quad d))
join_is n a b c d ha hb hc hd e =
    let fb : b * 2 ^ 32 % 2 ^ 128 ≡ b * 2 ^ 32 = mod-eq_of_lt (omega arith) in
    let fc : c * 2 ^ 64 % 2 ^ 128 ≡ c * 2 ^ 64 = mod-eq_of_lt (omega arith) in
    let fd : d * 2 ^ 96 % 2 ^ 128 ≡ d * 2 ^ 96 = mod-eq_of_lt (omega arith) in
    of_words n a b c d ha hb hc hd (omega (arith, e, fb, fc, fd))

-- `from_le_bytes` of a block
pub loaded : (xs : List ℕ) (n : ℕ) → length xs ≡ 16 → ((i : ℕ) → get_or xs i 0 < 256) → n ≡ from_le_bytes w128 xs → little16 n ≡ xs
loaded xs n h below e =
    let at : ℕ → ℕ = λ k. get_or xs k 0 in
    let w : ℕ → ℕ = λ k. at k + at (k + 1) * 256 + at (k + 2) * 65536 + at (k + 3) * 16777216 in
    of_words n (w 0) (w 4) (w 8) (w 12)
    (omega (arith, below 0, below 1, below 2, below 3)) (omega (arith, below 4, below 5, below 6, below 7))
    (omega (arith, below 8, below 9, below 10, below 11)) (omega (arith, below 12, below 13, below 14, below 15))
    (omega (arith, e))
    ∙ join4 (quad_word (at 0) (at 1) (at 2) (at 3) (below 0) (below 1) (below 2) (below 3))
    (quad_word (at 4) (at 5) (at 6) (at 7) (below 4) (below 5) (below 6) (below 7))
    (quad_word (at 8) (at 9) (at 10) (at 11) (below 8) (below 9) (below 10) (below 11))
    (quad_word (at 12) (at 13) (at 14) (at 15) (below 12) (below 13) (below 14) (below 15))
    ∙ whole xs h

-- `to_be_bytes`
pub stored_high : (n : ℕ) → to_be_bytes w128 n ≡ bytes16 n
stored_high n = cc (ap (λ m. m % 256) (sym (div-one n)))

-- `swap_bytes`
pub swapped : (n m : ℕ) → m ≡ swap_bytes w128 n → little16 m ≡ bytes16 n
swapped n m e =
    let one = div-one n in
    loaded (bytes16 n) m refl (λ i. at (bytes16 n) i (sixteen (λ k. n / 256 ^ (15 - k) % 256) (λ k. mod_below (n / 256 ^ (15 - k)) 256 (lit< tt)))) (omega (arith, e, one))

-- what `to_le_bytes` answers for half of a block
abbrev eight : ℕ → List ℕ
eight w = (w % 256) ∷ (w / 256 % 256) ∷ (w / 65536 % 256) ∷ (w / 16777216 % 256) ∷ (w / 4294967296 % 256) ∷ (w / 1099511627776 % 256) ∷ (w / 281474976710656 % 256) ∷ (w / 72057594037927936 % 256) ∷ []

pub stored : (n : ℕ) (l h : List ℕ) → l ≡ eight (bit_and n 18446744073709551615) → h ≡ eight (n / 18446744073709551616) → put_mid 8 8 (l ++ replicate 8 0) h ≡ little16 n
stored n l h el eh =
    let whole-half : bit_and n 18446744073709551615 ≡ n % 2 ^ 64 = and_mask n 64 in
    let low : (j k : ℕ) → j + 8 + k ≡ 64 → bit_and n 18446744073709551615 / 2 ^ k % 256 ≡ n / 2 ^ k % 256 = λ j k e. ap (λ m. m / 2 ^ k % 256) (whole-half ∙ ap (λ t. n % 2 ^ t) (sym e)) ∙ digit n j k in
    let first : bit_and n 18446744073709551615 % 256 ≡ n / 1 % 256 =
    ap (λ m. m % 256) (whole-half ∙ mod-pow-add n 56 8) ∙ mod-mul-add (n / 256 % 2 ^ 56) 256 (n % 256) (mod_below n 256 (lit< tt)) ∙ ap (λ m. m % 256) (sym (div-one n)) in
    let part : (k : ℕ) → n / 18446744073709551616 / 2 ^ k % 256 ≡ n / 2 ^ (64 + k) % 256 = λ k. ap (λ m. m % 256) (shr-shr n 64 k) in
    ap (λ x. put_mid 8 8 (x ++ replicate 8 0) h) el ∙ ap (put_mid 8 8 (eight (bit_and n 18446744073709551615) ++ replicate 8 0)) eh ∙ cc (first, low 48 8 refl, low 40 16 refl, low 32 24 refl, low 24 32 refl, low 16 40 refl, low 8 48 refl, low 0 56 refl, part 8, part 16, part 24, part 32, part 40, part 48, part 56)
