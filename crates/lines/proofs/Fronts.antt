-- The first bytes of a code. Assumes nothing.
use Rattle.std.proofs.Common.{◌≡◌, ℕ, min, List, length, take, ap, ◌∙◌, arith}
use Rattle.std.proofs.lemmas.List.{take_min}

pub cut_at : (code : List ℕ) (n : ℕ) → n ≡ min (length code) 33 → take n code ≡ take 33 code
cut_at code n e = ap (λ k. take k code) (let z : n ≡ min 33 (length code) = omega arith in z) ∙ take_min 33 code
