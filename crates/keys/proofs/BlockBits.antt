-- Block bits: the bits of counter blocks, one at a time. Assumes nothing.
use Rattle.std.proofs.Common.{◌≡◌, ℕ, ◌+◌, ◌-◌, ◌*◌, ◌/◌, ◌%◌, ◌^◌, ◌<◌, List, ◌∷◌, length, get_or, take, drop, sym, ap, ◌∙◌, arith}
use Rattle.std.proofs.lemmas.List.{length-drop, get_or-drop, drop_more}
use Rattle.block_cipher.specs.Counter.{counter_block}
use Rattle.coins.specs.Coins.{Bits, number, bits_of}
use Rattle.coins.proofs.Bits.{length_bits_of, bits_at, bit_below, number_more}
use Rattle.coins.proofs.Takes.{byte_coins_bits}
use Rattle.keys.specs.Sequences.{blocks}
use Rattle.keys.proofs.Streams.{length_block, length_blocks, byte_of_block}

module _ (key iv : List ℕ) where
  pub length_bits : (n : ℕ) → length (bits_of (blocks key iv n)) ≡ 128 * n
  length_bits n = let a = length_blocks key iv n in let b = length_bits_of (blocks key iv n) in omega arith

  -- each bit of the blocks is a bit of one block
  bit_of_block : (n t : ℕ) → t < 128 * n → get_or (bits_of (blocks key iv n)) t 0 ≡ get_or (bits_of (counter_block key iv (t / 128))) (t % 128) 0
  bit_of_block n t h =
      let all = length_blocks key iv n in
      let one = length_block key iv (t / 128) in
      let q : t / 8 / 16 ≡ t / 128 = omega arith in
      let p : t / 8 % 16 ≡ t % 128 / 8 = omega arith in
      let r : t % 8 ≡ t % 128 % 8 = omega arith in
      bits_at (blocks key iv n) t (omega arith)
      ∙ ap (λ b. b / 2 ^ (7 - t % 8) % 2) (byte_of_block key iv n (t / 8) (omega arith))
      ∙ ap (λ i. get_or (counter_block key iv i) (t / 8 % 16) 0 / 2 ^ (7 - t % 8) % 2) q
      ∙ ap (λ k. get_or (counter_block key iv (t / 128)) k 0 / 2 ^ (7 - t % 8) % 2) p
      ∙ ap (λ k. get_or (counter_block key iv (t / 128)) (t % 128 / 8) 0 / 2 ^ (7 - k) % 2) r
      ∙ sym (bits_at (counter_block key iv (t / 128)) (t % 128) (omega arith))

  -- the next coin, from the block that has it
  pub next_coin : (n t : ℕ) (block : List ℕ) (bit : ℕ) → t < 128 * n → block ≡ counter_block key iv (t / 128) → bit ≡ get_or (bits_of block) (t % 128) 0
      → (drop t (bits_of (blocks key iv n)) ≡ bit ∷ drop (t + 1) (bits_of (blocks key iv n))) × (bit < 2)
  next_coin n t block bit h eb e =
      let is : bit ≡ get_or (bits_of (blocks key iv n)) t 0 = e ∙ ap (λ l. get_or (bits_of l) (t % 128) 0) eb ∙ sym (bit_of_block n t h) in
      let below = bit_below (blocks key iv n) t (omega (arith, length_blocks key iv n)) in (
        drop_more (bits_of (blocks key iv n)) t 0 (omega (arith, length_bits n)) ∙ ap (λ b. b ∷ drop (t + 1) (bits_of (blocks key iv n))) (sym is),
        omega (arith, is),
      )

  -- what waits once some coins of 4,096 blocks are taken
  pub coins_left : (t : ℕ) → length (drop t (bits_of (blocks key iv 4096))) ≡ 524288 - t
  coins_left t = length-drop t (bits_of (blocks key iv 4096)) ∙ ap (λ n. n - t) (length_bits 4096)

  pub coins_are_bits : (t : ℕ) → Bits (drop t (bits_of (blocks key iv 4096)))
  coins_are_bits t = byte_coins_bits (blocks key iv 4096) t (omega (arith, length_blocks key iv 4096))

-- one coin more of those from a place on
pub coin_more : (bs : List ℕ) (from i bit n : ℕ) (cur next : List ℕ) → from + i < 8 * length bs → n ≡ number (take i (drop from (bits_of bs)))
    → cur ≡ drop i (drop from (bits_of bs)) → cur ≡ bit ∷ next
    → (2 * n + bit ≡ number (take (i + 1) (drop from (bits_of bs)))) × (next ≡ drop (i + 1) (drop from (bits_of bs)))
coin_more bs from i bit n cur next h en ec eb =
    let inside : i < length (drop from (bits_of bs)) = simp (length-drop, length_bits_of) (omega arith) in
    let split : drop i (drop from (bits_of bs)) ≡ get_or (drop from (bits_of bs)) i 0 ∷ drop (i + 1) (drop from (bits_of bs)) = drop_more (drop from (bits_of bs)) i 0 inside in
    let bit_is : bit ≡ get_or (drop from (bits_of bs)) i 0 = cc in
    let rest : next ≡ drop (i + 1) (drop from (bits_of bs)) = cc in
    let more = number_more bs from i h in
    (omega (arith, en, bit_is ∙ get_or-drop from (bits_of bs) i 0, more), rest)
