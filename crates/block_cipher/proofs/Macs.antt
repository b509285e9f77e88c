-- CMAC: the subkeys, the last block, and the chain over the blocks before it. Assumes nothing.
use Rattle.std.proofs.Common.{◌≡◌, ℕ, zero, suc, get_or, ◌+◌, ◌-◌, ◌*◌, ◌/◌, ◌%◌, ◌^◌, ◌<◌, ◌≤◌, eqb, ltb, List, ◌∷◌, ◌++◌, length, take, drop, set, replicate, sym, refl, ap, ◌∙◌, arith}
use lib.Bits.{bit_xor}
use Rattle.std.specs.Simd.{first_chunks}
use Rattle.std.proofs.lemmas.List.{set_at, drop-replicate, drop-drop}
use Rattle.std.proofs.lemmas.Bool.{cond-true, cond-false, lt-ltb, le-ltb, eq-eqb, ne_eqb}
use Rattle.block_cipher.specs.Aes.{xor_block, cipher}
use Rattle.block_cipher.specs.Counter.{number, bytes16}
use Rattle.block_cipher.specs.Cmac.{zeros, shift_left, doubled, subkey1, subkey2, padded, last_block, chained, before, cmac}
use Rattle.block_cipher.proofs.Digits.{sum16, sum_number}

pub doubled_low : (n r : ℕ) → n / 2 ^ 127 ≡ 0 → r ≡ n * 2 % 2 ^ 128 → r ≡ doubled n
doubled_low n r h e = e ∙ sym (cond-true (ltb n (2 ^ 127)) (shift_left n) (bit_xor (shift_left n) 0x87) (lt-ltb n (2 ^ 127) (omega arith)))

pub doubled_high : (n r : ℕ) → 2 ^ 127 ≤ n → r ≡ bit_xor (n * 2 % 2 ^ 128) 0x87 → r ≡ doubled n
doubled_high n r h e = e ∙ sym (cond-false (ltb n (2 ^ 127)) (shift_left n) (bit_xor (shift_left n) 0x87) (le-ltb n (2 ^ 127) h))

pub doubles : (x b : List ℕ) (n r : ℕ) → length x ≡ 16 → n ≡ sum16 x → r ≡ doubled n → b ≡ bytes16 r → b ≡ bytes16 (doubled (number x))
doubles x b n r h en er eb = eb ∙ ap bytes16 (er ∙ ap doubled (en ∙ sum_number x h))

pub pads : (rest part : List ℕ) (k : ℕ) → part ≡ rest → k ≡ length rest → length rest < 16 → set (part ++ drop k zeros) (length rest) 0x80 ≡ padded rest
pads rest part k ep ek h =
    let m : 16 - k ≡ suc (15 - length rest) = omega (arith, ek, h) in
    let tail : drop k zeros ≡ 0 ∷ replicate (15 - length rest) 0 = drop-replicate k 16 0 ∙ ap (λ n. replicate n 0) m in
    ap (λ p. set (p ++ drop k zeros) (length rest) 0x80) ep ∙ ap (λ t. set (rest ++ t) (length rest) 0x80) tail ∙ set_at rest 0 (replicate (15 - length rest) 0) 0x80 (length rest) refl

module _ (key k1 k2 rest : List ℕ) (first : k1 ≡ subkey1 key) (second : k2 ≡ subkey2 key) where
  pub last_complete : (b out : List ℕ) → length rest ≡ 16 → b ≡ rest → out ≡ xor_block k1 b → out ≡ last_block key rest
  unfolding last_block
  last_complete b out h eb eo =
      eo ∙ ap (xor_block k1) eb ∙ ap (λ k. xor_block k rest) first ∙ sym (cond-true (eqb (length rest) 16) _ _ (eq-eqb (length rest) 16 h))

  pub last_padded : (b out : List ℕ) → (length rest ≡ 16 → ⊥) → b ≡ padded rest → out ≡ xor_block k2 b → out ≡ last_block key rest
  unfolding last_block
  last_padded b out h eb eo =
      eo ∙ ap (xor_block k2) eb ∙ ap (λ k. xor_block k (padded rest)) second ∙ sym (cond-false (eqb (length rest) 16) _ _ (ne_eqb (length rest) 16 h))

-- a block of the message, as `as_chunks` parts it
pub chunk_at : (m : List ℕ) (n k i : ℕ) (d : List ℕ) → i < n → n ≤ k → get_or (take n (first_chunks 16 k m)) i d ≡ take 16 (drop (16 * i) m)
chunk_at m zero k i d h l = absurd (omega (arith, h))
chunk_at m (suc n) zero i d h l = absurd (omega (arith, l))
chunk_at m (suc n) (suc k) zero d h l = refl
chunk_at m (suc n) (suc k) (suc i) d h l =
    chunk_at (drop 16 m) n k i d (omega (arith, h)) (omega (arith, l)) ∙ ap (take 16) (drop-drop (16 * i) 16 m ∙ ap (λ j. drop j m) (omega arith))

-- one block of the chain
pub chain_more : (key m c b x out : List ℕ) (n i : ℕ) → i < n → b ≡ take 16 (drop (16 * i) m) → x ≡ xor_block c b → out ≡ cipher key x
    → chained key out (n - (i + 1)) (drop (16 * (i + 1)) m) ≡ chained key c (n - i) (drop (16 * i) m)
unfolding chained
chain_more key m c b x out n i h eb ex eo =
    let count : n - i ≡ suc (n - (i + 1)) = omega arith in
    let rest : drop 16 (drop (16 * i) m) ≡ drop (16 * (i + 1)) m = drop-drop 16 (16 * i) m ∙ ap (λ k. drop k m) (omega arith) in
    ap (λ o. chained key o (n - (i + 1)) (drop (16 * (i + 1)) m)) (eo ∙ ap (cipher key) (ex ∙ ap (xor_block c) eb))
    ∙ ap (chained key (cipher key (xor_block c (take 16 (drop (16 * i) m)))) (n - (i + 1))) (sym rest)
    ∙ ap (λ k. chained key c k (drop (16 * i) m)) (sym count)

-- the last block
pub chain_end : (key m c l x out rest : List ℕ) (n i : ℕ) → i ≡ n → n ≡ before (length m) → rest ≡ drop (16 * n) m → l ≡ last_block key rest → x ≡ xor_block c l → out ≡ cipher key x
    → chained key c (n - i) (drop (16 * i) m) ≡ chained key zeros n m → out ≡ cmac key m
unfolding chained cmac
chain_end key m c l x out rest n i ei en er el ex eo inv =
    let count : n - i ≡ 0 = omega (arith, ei) in
    eo ∙ ap (cipher key) (ex ∙ ap (xor_block c) (el ∙ ap (last_block key) (er ∙ ap (λ k. drop (16 * k) m) (sym ei))))
    ∙ ap (λ k. chained key c k (drop (16 * i) m)) (sym count) ∙ inv ∙ ap (λ k. chained key zeros k m) en
