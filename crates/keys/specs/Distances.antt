-- Branch distances: how far from the two ends of a code a layer looks, by the code's length. Assumes nothing.
--   root          the whole root of a number: the greatest number whose square is not above it
--   w_of, w'_of   the two distances of a length, from the front and from the end
--   distances_of  the answer for a length: 2 to 32 has distances
--   Rooted        what makes the root the root
use Rattle.std.specs.Prelude.{ℕ, zero, suc, ◌-◌, ◌*◌, ◌≤◌, min, max, cond, ◌&&◌, Ok, Err, Result, nat_le}
use Rattle.faults.specs.declared.fault.Cause.TheVariants.{Range}
use Rattle.faults.specs.declared.fault.Fault.{Fault}
use Rattle.faults.specs.Faults.{own}
use Rattle.keys.specs.declared.distances.Distances.{Distances}

-- the greatest that is at most r
abbrev pub root_up_to : ℕ → ℕ → ℕ
root_up_to n zero = 0
root_up_to n (suc r) = cond (nat_le (suc r * suc r) n) (suc r) (root_up_to n r)

unfoldable pub root : ℕ → ℕ
root n = root_up_to n n

unfoldable pub w_of : ℕ → ℕ
w_of len = min (root len) (len - 2)

unfoldable pub w'_of : ℕ → ℕ
w'_of len = max 1 (w_of len - 1)

abbrev pub distances : ℕ → Distances
distances len = record { w = w_of len; w_prime = w'_of len }

abbrev pub distances_of : ℕ → Result Distances Fault
distances_of len = cond (nat_le 2 len && nat_le len 32) (Ok (distances len)) (Err (own Range))

pub record Rooted (n : ℕ) : Type 0 where
  pub within : root n * root n ≤ n
  pub greatest : (r : ℕ) → r * r ≤ n → r ≤ root n
