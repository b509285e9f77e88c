-- Fair: what makes a draw fair. Assumes nothing.
--   passing      how many numbers below one pass a test
--   is_number    whether a try gave a number
--   Least        the exponent of a bound is the least that reaches it
--   EqualShares  the accepted tries are shared out equally
use Rattle.std.specs.Prelude.{◌≡◌, ℕ, zero, suc, ◌+◌, ◌/◌, ◌^◌, ◌<◌, ◌≤◌, Bool, false, cond, Some, None, Option, ◌==◌}
use Rattle.coins.specs.Draws.{log2_up, width, given_by}

unfoldable pub passing : (ℕ → Bool) → ℕ → ℕ
passing test zero = 0
passing test (suc n) = cond (test n) 1 0 + passing test n

abbrev pub is_number : ℕ → Option ℕ → Bool
is_number j None = false
is_number j (Some x) = x == j

pub record Least (k : ℕ) : Type 0 where
  -- two to the exponent is enough
  pub reaches : k ≤ 2 ^ log2_up k
  -- and no smaller exponent is
  pub least : (e : ℕ) → k ≤ 2 ^ e → log2_up k ≤ e

-- of the strings of coins that a try can take, as many give one number below the bound as give any other: the whole part of 2 ^ width k by k
abbrev pub EqualShares : ℕ → Type 0
EqualShares k = (j : ℕ) → j < k → passing (λ v. is_number j (given_by k v)) (2 ^ width k) ≡ 2 ^ width k / k

pub record Fair : Type 0 where
  pub exponents : (k : ℕ) → Least k
  pub shares : (k : ℕ) → 0 < k → EqualShares k
