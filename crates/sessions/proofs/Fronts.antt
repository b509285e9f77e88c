-- The first bytes of a buffer, made fewer. Assumes nothing.
use Rattle.std.proofs.Common.{◌≡◌, ℕ, ◌+◌, ◌-◌, ◌<◌, ◌≤◌, min, List, length, take, drop, sym, ap, ◌∙◌, ⊎_elim, arith, length-drop}
use lib.Seq.{paste}
use Rattle.std.proofs.lemmas.List.Edits.{take-paste}
use Rattle.std.proofs.lemmas.List.{drop-take, length-take, take_all, take-take}
use Rattle.std.proofs.lemmas.Bool.{cases_lt}

pub shortened : (bytes : List ℕ) (len k : ℕ) → k ≡ min len 4097 → take k bytes ≡ take 4097 (take len bytes)
shortened bytes len k e =
    ⊎_elim
    (λ (h : len < 4097). ap (λ n. take n bytes) (let z : k ≡ len = omega arith in z) ∙ sym (take_all 4097 (take len bytes) (omega (arith, length-take len bytes))))
    (λ (h : 4097 ≤ len). ap (λ n. take n bytes) (let z : k ≡ 4097 = omega arith in z) ∙ sym (take-take 4097 len bytes h))
    (cases_lt len 4097)

-- the last n of the first len bytes, moved to the front
pub moved : (bytes after : List ℕ) (len n k : ℕ) → n ≤ len → len ≤ length bytes → k ≡ n → after ≡ paste bytes 0 (drop (len - n) bytes) k
    → take n after ≡ drop (len - n) (take len bytes)
moved bytes after len n k h room same e =
    let there : List ℕ = drop (len - n) bytes in
    ap (take n) e
    ∙ ap (λ j. take j (paste bytes 0 there k)) (let z : n ≡ 0 + k = omega arith in z)
    ∙ take-paste bytes 0 there k (omega arith) (omega (arith, length-drop (len - n) bytes))
    ∙ ap (λ j. take j there) same
    ∙ sym (drop-take (len - n) n bytes)
    ∙ ap (λ j. drop (len - n) (take j bytes)) (let z : len - n + n ≡ len = omega arith in z)
