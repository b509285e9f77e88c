-- Draws: a number below a bound, drawn from coins. Assumes nothing.
--   log2_up        the least exponent at which a power of two reaches a number
--   width          how many coins a try takes
--   rejects        whether a try is rejected
--   share          the number that an accepted try gives
--   given_by       what a try gives: nothing where it is rejected
--   tries          how many whole tries the coins hold
--   try_at         the number that the coins of a try form
--   first_from     the first accepted try
--   drawing        what it is to draw below a bound
--   FirstAccepted  a try is the first that is accepted
--   FirstGives     the first accepted try gives the number
use Rattle.std.specs.Prelude.{◌≡◌, ℕ, zero, suc, ◌+◌, ◌*◌, ◌/◌, ◌%◌, ◌^◌, ◌<◌, ◌≤◌, Bool, true, false, cond, ◌&&◌, List, length, take, drop, Some, None, Ok, Err, Option, nat_le, nat_lt}
use Rattle.faults.specs.declared.fault.Cause.TheVariants.{Range, CoinsShort}
use Rattle.faults.specs.Faults.{own, deeper}
use Rattle.coins.specs.Coins.{number, Outcome, refusal}

-- the least from e on, looked for `more` times
unfoldable pub least_from : ℕ → ℕ → ℕ → ℕ
least_from k e zero = e
least_from k e (suc more) = cond (nat_le k (2 ^ e)) e (least_from k (suc e) more)

unfoldable pub log2_up : ℕ → ℕ
log2_up k = least_from k 0 k

unfoldable pub width : ℕ → ℕ
width k = log2_up k + 4

-- v times k is cut at the width: its high part is the number, and a try with too low a low part is rejected, since those tries would give some numbers once too often
abbrev pub rejects : ℕ → ℕ → Bool
rejects k v = nat_lt (v * k % 2 ^ width k) (2 ^ width k % k)

abbrev pub share : ℕ → ℕ → ℕ
share k v = v * k / 2 ^ width k

abbrev pub given_by : ℕ → ℕ → Option ℕ
given_by k v = cond (rejects k v) None (Some (share k v))

abbrev pub tries : ℕ → List ℕ → ℕ
tries k coins = length coins / width k

abbrev pub try_at : ℕ → List ℕ → ℕ → ℕ
try_at k coins n = number (take (width k) (drop (n * width k) coins))

-- among `more` tries, the n-th and those after it
abbrev pub first_from : ℕ → List ℕ → ℕ → ℕ → Option ℕ
first_from k coins n zero = None
first_from k coins n (suc more) = cond (rejects k (try_at k coins n)) (first_from k coins (suc n) more) (Some n)

-- a draw that accepts the n-th try, or none: all tries up to it are gone, and too few coins are passed up from the take
abbrev pub drawn_at : ℕ → List ℕ → Option ℕ → Outcome ℕ
drawn_at k coins (Some n) = record { answer = Ok (share k (try_at k coins n)); gone = suc n * width k }
drawn_at k coins None = record { answer = Err (deeper (own CoinsShort)); gone = tries k coins * width k }

unfoldable pub drawing : ℕ → List ℕ → Outcome ℕ
drawing k coins =
    cond (nat_le 2 k && nat_le k 4096) (drawn_at k coins (first_from k coins 0 (tries k coins))) (refusal (own Range))

-- the n-th try is the first that is accepted
pub record FirstAccepted (k : ℕ) (coins : List ℕ) (n : ℕ) : Type 0 where
  pub whole : n < tries k coins
  pub passed : (i : ℕ) → i < n → rejects k (try_at k coins i) ≡ true
  pub accepted : rejects k (try_at k coins n) ≡ false

-- what a draw comes to, in words of its tries
pub record Draws (k : ℕ) (coins : List ℕ) : Type 0 where
  -- the first accepted try gives the number, and the coins of all tries up to it are gone
  pub given : (n : ℕ) → FirstAccepted k coins n → drawing k coins ≡ record { answer = Ok (share k (try_at k coins n)); gone = suc n * width k }
  -- where all tries are rejected, their coins are gone, and too few are left for another
  pub short : ((i : ℕ) → i < tries k coins → rejects k (try_at k coins i) ≡ true) →
      drawing k coins ≡ record { answer = Err (deeper (own CoinsShort)); gone = tries k coins * width k }

abbrev pub FirstGives : Type 0
FirstGives = (k : ℕ) (coins : List ℕ) → 2 ≤ k → k ≤ 4096 → Draws k coins
