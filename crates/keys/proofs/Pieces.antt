-- Pieces: lists that are written piece by piece into an array. Assumes nothing.
use Rattle.std.proofs.Common.{◌≡◌, ℕ, ◌+◌, ◌-◌, ◌<◌, ◌≤◌, min, List, [], ◌∷◌, ◌++◌, length, take, drop, replicate, sym, ap, ◌∙◌, ⊎_elim, arith}
use borrow.Rule.Slice.PartMut.{put_mid, post_of}
use Rattle.std.proofs.lemmas.List.{append_assoc, append-nil, length-append, length-drop, take_all, take_at, drop_at, drop_all, drop-drop}
use Rattle.std.proofs.lemmas.Slice.{take-put_mid}
use Rattle.std.proofs.lemmas.Bool.{cases_lt}

-- a front of eight, six after it, and the rest
pub three_pieces : (a b c zs : List ℕ) (k n : ℕ) → length a ≡ 8 → length b ≡ 6 → n ≡ 14 + length c
    → take n (put_mid 14 k (put_mid 8 6 (a ++ zs) b) c) ≡ a ++ (b ++ c)
three_pieces a b c zs k n ha hb hn =
    let long : 8 ≤ length (a ++ zs) = simp length-append (omega arith) in
    let front : take 8 (a ++ zs) ≡ a = take_at a zs 8 ha in
    let inner : put_mid 8 6 (a ++ zs) b ≡ a ++ (b ++ post_of 8 6 (a ++ zs)) = ap (λ l. l ++ (b ++ post_of 8 6 (a ++ zs))) front in
    let longer : 14 ≤ length (a ++ (b ++ post_of 8 6 (a ++ zs))) = simp length-append (omega arith) in
    let longest : 14 ≤ length (put_mid 8 6 (a ++ zs) b) = omega (arith, ap length inner) in
    take-put_mid 14 k (put_mid 8 6 (a ++ zs) b) c n hn longest
    ∙ ap (λ l. l ++ c) (take-put_mid 8 6 (a ++ zs) b 14 (omega arith) long ∙ ap (λ l. l ++ b) front)
    ∙ append_assoc a b c

-- sixteen and sixteen more
pub two_pieces : (a b old : List ℕ) → length a ≡ 16 → length old ≡ 32 → put_mid 16 16 (a ++ post_of 0 16 old) b ≡ a ++ b
two_pieces a b old ha ho =
    let rest : List ℕ = post_of 0 16 old in
    let short : length rest ≤ 16 = simp length-drop (omega arith) in
    let past : drop 16 (drop 16 (a ++ rest)) ≡ [] = ap (drop 16) (drop_at a rest 16 ha) ∙ drop_all 16 rest short in
    ap (λ l. l ++ (b ++ drop 16 (drop 16 (a ++ rest)))) (take_at a rest 16 ha) ∙ ap (λ l. a ++ (b ++ l)) past ∙ ap (λ l. a ++ l) (append-nil b)

-- sixteen, of which the last two are set to 0
pub last_cleared : (s zeros : List ℕ) (m : ℕ) → length s ≡ 16 → m ≡ 2 → zeros ≡ replicate m 0 → put_mid 14 2 s zeros ≡ take 14 s ++ 0 ∷ 0 ∷ []
last_cleared s zeros m h two ez =
    let two_zeros : zeros ≡ 0 ∷ 0 ∷ [] = ez ∙ ap (λ n. replicate n 0) two in
    let past : drop 2 (drop 14 s) ≡ [] = drop-drop 2 14 s ∙ drop_all 16 s (omega arith) in
    ap (λ l. take 14 s ++ (l ++ drop 2 (drop 14 s))) two_zeros ∙ ap (λ l. take 14 s ++ (0 ∷ 0 ∷ l)) past

-- as much of sixteen as there is room for
module _ (block out part : List ℕ) (from count k c : ℕ) (long : length block ≡ 16) (inside : from < length out)
    (least : count ≡ min (length out - from) 16) (ek : k ≡ count) (ec : c ≡ count) (copied : part ≡ take c block) where
  part_is : part ≡ take (length out - from) block
  part_is =
      copied
      ∙ ⊎_elim
      (λ h. let e : c ≡ length out - from = omega arith in ap (λ n. take n block) e)
      (λ h. take_all c block (omega arith) ∙ sym (take_all (length out - from) block (omega arith)))
      (cases_lt (length out - from) 16)

  rest_is : drop k (drop from out) ≡ drop (from + 16) out
  rest_is =
      drop-drop k from out
      ∙ ⊎_elim
      (λ h. drop_all (from + k) out (omega arith) ∙ sym (drop_all (from + 16) out (omega arith)))
      (λ h. let e : from + k ≡ from + 16 = omega arith in ap (λ n. drop n out) e)
      (cases_lt (length out - from) 16)

  pub block_copied : put_mid from k out part ≡ take from out ++ (take (length out - from) block ++ drop (from + 16) out)
  block_copied =
      ap (λ l. take from out ++ (l ++ drop k (drop from out))) part_is
      ∙ ap (λ l. take from out ++ (take (length out - from) block ++ l)) rest_is
