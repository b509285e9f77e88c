-- Roots: what makes the root of a number the root. Assumes nothing.
use Rattle.std.proofs.Common.{◌≡◌, ℕ, zero, suc, ◌+◌, ◌-◌, ◌*◌, ◌<◌, ◌≤◌, min, max, leb, ap, ◌∙◌, ⊎_elim, mul-le-mul, mul-le-mul_left, arith}
use Rattle.std.proofs.lemmas.Bool.{cond_both, leb-true, leb-false, cases_lt}
use Rattle.keys.specs.Distances.{root_up_to, root, w_of, w'_of, Rooted}

-- squares keep the order
square_le : (m n : ℕ) → m ≤ n → m * m ≤ n * n
square_le m n h = mul-le-mul h h

least_square : (n : ℕ) → n ≤ n * n
least_square zero = omega arith
least_square (suc n) = let h : suc n * 1 ≤ suc n * suc n = mul-le-mul_left (suc n) (omega arith) in omega arith

up_within : (n m : ℕ) → root_up_to n m * root_up_to n m ≤ n
up_within n zero = omega arith
up_within n (suc m) =
    cond_both (leb (suc m * suc m) n) (suc m) (root_up_to n m) (λ r. r * r ≤ n) (λ e. leb-true (suc m * suc m) n e) (λ e. up_within n m)

up_greatest : (n m r : ℕ) → r ≤ m → r * r ≤ n → r ≤ root_up_to n m
up_greatest n zero r l h = l
up_greatest n (suc m) r l h =
    cond_both (leb (suc m * suc m) n) (suc m) (root_up_to n m) (λ x. r ≤ x) (λ e. l)
    (λ e. up_greatest n m r
    (⊎_elim (λ k. omega arith) (λ k. absurd (omega (arith, leb-false (suc m * suc m) n e, square_le (suc m) r k))) (cases_lt r (suc m))) h)

pub rooted : (n : ℕ) → Rooted n
unfolding root
rooted n = record { within = up_within n n; greatest = λ r h. up_greatest n n r (omega (arith, least_square r)) h }

-- a number whose square is not above n, while that of the next is, is the root
pub root_is : (n r : ℕ) → r * r ≤ n → n < (r + 1) * (r + 1) → r ≡ root n
root_is n r low high =
    let above = (rooted n).greatest r low in
    ⊎_elim
    (λ k. omega arith)
    (λ k. absurd (omega (arith, square_le (r + 1) (root n) k, (rooted n).within)))
    (cases_lt (root n) (r + 1))

-- the distances as they are computed
module _ (len r w : ℕ) (low : r * r ≤ len) (high : len < (r + 1) * (r + 1)) (lesser : w ≡ min r (len - 2)) where
  pub w_is : w ≡ w_of len
  unfolding w_of
  w_is = lesser ∙ ap (λ x. min x (len - 2)) (root_is len r low high)

  pub w'_is : (below v : ℕ) → below ≡ w - 1 → v ≡ max below 1 → v ≡ w'_of len
  unfolding w'_of
  w'_is below v eb ev =
      let swapped : max (w - 1) 1 ≡ max 1 (w - 1) = omega arith in
      ev ∙ ap (λ x. max x 1) eb ∙ swapped ∙ ap (λ x. max 1 (x - 1)) w_is
