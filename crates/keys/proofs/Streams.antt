-- Streams: counter blocks one after the other, as they are copied into a slice. Assumes nothing.
use Rattle.std.proofs.Common.{◌≡◌, ℕ, zero, suc, ◌+◌, ◌-◌, ◌*◌, ◌/◌, ◌%◌, ◌<◌, ◌≤◌, min, List, [], ◌++◌, length, get_or, take, drop, sym, refl, ap, ◌∙◌, ⊎_elim, add-one, arith}
use lib.Seq.{take-append-add}
use Rattle.std.proofs.lemmas.List.{append_assoc, append-nil, length-append, length-drop, length-take-le, get_or_append_left, get_or-append_right, get_or-take, take_at, take_all, drop_at, drop_all, drop-drop}
use Rattle.std.proofs.lemmas.Bool.{cases_lt}
use Rattle.block_cipher.specs.Aes.{cipher}
use Rattle.block_cipher.specs.Counter.{counter_block}
use Rattle.keys.specs.Sequences.{blocks, stream, InOrder}

module _ (key iv : List ℕ) where
  pub length_block : (i : ℕ) → length (counter_block key iv i) ≡ 16
  unfolding counter_block cipher
  length_block i = refl

  pub length_blocks : (n : ℕ) → length (blocks key iv n) ≡ 16 * n
  unfolding blocks
  length_blocks zero = refl
  length_blocks (suc n) =
      let a = length_blocks n in
      let b = length_block n in
      simp length-append (omega arith)

  -- each byte of the blocks is a byte of one block
  pub byte_of_block : (n j : ℕ) → j < 16 * n → get_or (blocks key iv n) j 0 ≡ get_or (counter_block key iv (j / 16)) (j % 16) 0
  unfolding blocks
  byte_of_block zero j h = absurd (omega arith)
  byte_of_block (suc n) j h =
      ⊎_elim
      (λ k. get_or_append_left (blocks key iv n) (counter_block key iv n) 0 j (omega (arith, length_blocks n)) ∙ byte_of_block n j k)
      (λ k.
      let q : n ≡ j / 16 = omega arith in
      let r : j - 16 * n ≡ j % 16 = omega arith in
      get_or-append_right (blocks key iv n) (counter_block key iv n) (16 * n) j 0 (length_blocks n) k
      ∙ ap (λ p. get_or (counter_block key iv n) p 0) r
      ∙ ap (λ i. get_or (counter_block key iv i) (j % 16) 0) q)
      (cases_lt j (16 * n))

  pub in_order : (n : ℕ) → InOrder key iv n
  unfolding stream
  in_order n =
      let count = (n + 15) / 16 in
      record {
        long = length-take-le n (blocks key iv count) (omega (arith, length_blocks count));
        each = λ j h. get_or-take n (blocks key iv count) j 0 h ∙ byte_of_block count j (omega arith);
      }

  -- before the first block
  pub stream_none : (n : ℕ) (old : List ℕ) → old ≡ take n (blocks key iv 0) ++ drop 0 old
  unfolding blocks
  stream_none n old = ap (λ l. l ++ old) (sym (take_all n [] (omega arith)))

  -- one block more
  module _ (old cur block new : List ℕ) (i : ℕ) (inside : 16 * i < length old) (is : block ≡ counter_block key iv i)
      (inv : cur ≡ take (length old) (blocks key iv i) ++ drop (16 * i) old)
      (copied : new ≡ take (16 * i) cur ++ (take (length cur - 16 * i) block ++ drop (16 * i + 16) cur)) where
    cur_is : cur ≡ blocks key iv i ++ drop (16 * i) old
    cur_is = inv ∙ ap (λ l. l ++ drop (16 * i) old) (take_all (length old) (blocks key iv i) (omega (arith, length_blocks i)))

    cur_long : length cur ≡ length old
    cur_long = ap length cur_is ∙ simp (length-append, length-drop) (omega (arith, length_blocks i))

    front : take (16 * i) cur ≡ blocks key iv i
    front = ap (take (16 * i)) cur_is ∙ take_at (blocks key iv i) (drop (16 * i) old) (16 * i) (length_blocks i)

    back : drop (16 * i + 16) cur ≡ drop (16 * (i + 1)) old
    back =
        let more : 16 * i + 16 ≡ 16 * (i + 1) = omega arith in
        sym (drop-drop 16 (16 * i) cur)
        ∙ ap (λ l. drop 16 (drop (16 * i) l)) cur_is
        ∙ ap (drop 16) (drop_at (blocks key iv i) (drop (16 * i) old) (16 * i) (length_blocks i))
        ∙ drop-drop 16 (16 * i) old
        ∙ ap (λ k. drop k old) more

    whole : take (length old) (blocks key iv (i + 1)) ≡ blocks key iv i ++ take (length cur - 16 * i) block
    unfolding blocks
    whole =
        let split : length old ≡ length (blocks key iv i) + (length cur - 16 * i) = omega (arith, length_blocks i, cur_long) in
        ap (λ k. take (length old) (blocks key iv k)) (add-one i)
        ∙ ap (λ k. take k (blocks key iv i ++ counter_block key iv i)) split
        ∙ take-append-add (blocks key iv i) (counter_block key iv i) (length cur - 16 * i)
        ∙ ap (λ b. blocks key iv i ++ take (length cur - 16 * i) b) (sym is)

    pub stream_more : new ≡ take (length old) (blocks key iv (i + 1)) ++ drop (16 * (i + 1)) old
    stream_more =
        copied ∙ ap (λ l. l ++ (take (length cur - 16 * i) block ++ drop (16 * i + 16) cur)) front
        ∙ ap (λ l. blocks key iv i ++ (take (length cur - 16 * i) block ++ l)) back
        ∙ sym (append_assoc (blocks key iv i) (take (length cur - 16 * i) block) (drop (16 * (i + 1)) old))
        ∙ ap (λ l. l ++ drop (16 * (i + 1)) old) (sym whole)

  -- after the last block
  pub stream_end : (old cur : List ℕ) (count i : ℕ) → count ≡ length old / 16 + min 1 (length old % 16) → count ≤ i → i ≤ count
      → cur ≡ take (length old) (blocks key iv i) ++ drop (16 * i) old → cur ≡ stream key iv (length old)
  unfolding stream
  stream_end old cur count i ec low high inv =
      let all : i ≡ (length old + 15) / 16 = omega arith in
      let past : length old ≤ 16 * i = omega arith in
      inv ∙ ap (λ l. take (length old) (blocks key iv i) ++ l) (drop_all (16 * i) old past)
      ∙ append-nil (take (length old) (blocks key iv i))
      ∙ ap (λ k. take (length old) (blocks key iv k)) all
