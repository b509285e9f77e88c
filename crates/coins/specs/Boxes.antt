-- Boxes: permutations of the numbers below a radix, as tables, and how coins make one. Assumes nothing.
--   Permutation  a table holds each number below the radix, and each once
--   permutes     the test of that, by the entries alone
--   Tells        the test tells a permutation
--   Undoes       a second table takes each number that the first gives back to where it came from
--   swapped      a table with two places changed
--   swaps        the swaps from a place down to the second, each with a place that a draw finds
--   making       what it is to make a box of a radix
--   MadeIn       a call makes a box in a table
--   Shuffles     whatever the coins, what is made is a permutation
use Rattle.std.specs.Prelude.{◌≡◌, ℕ, zero, suc, ◌+◌, ◌-◌, ◌<◌, Bool, true, cond, not, ◌&&◌, List, [], ◌∷◌, length, IfOk, Ok, Err, Result, ◌==◌, nat_le, nat_lt, slice_index, slice_set}
use Rattle.std.specs.List.{range_with_len, AllByRecursion}
use Rattle.faults.specs.declared.fault.Cause.TheVariants.{Range}
use Rattle.faults.specs.declared.fault.Fault.{Fault}
use Rattle.faults.specs.Faults.{own, deeper}
use Rattle.coins.specs.Coins.{Outcome, refusal, after}
use Rattle.coins.specs.Draws.{drawing}

pub record Permutation (a : ℕ) (table : List ℕ) : Type 0 where
  pub long : length table ≡ a
  -- each entry is below the radix
  pub inside : (x : ℕ) → x < a → slice_index table x < a
  -- no number stands twice
  pub once : (x y : ℕ) → x < a → y < a → slice_index table x ≡ slice_index table y → x ≡ y
  -- and each stands somewhere
  pub everywhere : (y : ℕ) → y < a → (x : ℕ) × (x < a) × (slice_index table x ≡ y)

-- the test of a table: each entry is below its length, and none stands again after its place
abbrev pub absent : ℕ → List ℕ → Bool
absent y [] = true
absent y (x ∷ xs) = not (x == y) && absent y xs

unfoldable pub below_once : ℕ → List ℕ → Bool
below_once a [] = true
below_once a (x ∷ xs) = (nat_lt x a && absent x xs) && below_once a xs

unfoldable pub permutes : List ℕ → Bool
permutes table = below_once (length table) table

-- the test tells a permutation
pub record Tells (table : List ℕ) : Type 0 where
  pub sound : permutes table ≡ true → Permutation (length table) table
  pub complete : Permutation (length table) table → permutes table ≡ true

abbrev pub Undoes : ℕ → List ℕ → List ℕ → Type 0
Undoes a table back = (x : ℕ) → x < a → (slice_index table x < a) × (slice_index back (slice_index table x) ≡ x)

abbrev pub swapped : List ℕ → ℕ → ℕ → List ℕ
swapped table i j = slice_set (slice_set table i (slice_index table j)) j (slice_index table i)

-- what comes after a call, with the coins of both; a refusal is passed up
abbrev pub follow : {A B : Type 0} → Result A Fault → ℕ → (A → Outcome B) → Outcome B
follow (Ok x) gone next = record { answer = (next x).answer; gone = gone + (next x).gone }
follow (Err f) gone next = record { answer = Err (deeper f); gone = gone }

abbrev pub and_then : {A B : Type 0} → Outcome A → (A → Outcome B) → Outcome B
and_then o next = follow o.answer o.gone next

-- at each place i, down to 1, the entry changes places with the one that a draw below i + 1 finds
unfoldable pub swaps : ℕ → List ℕ → List ℕ → Outcome (List ℕ)
swaps zero table coins = record { answer = Ok table; gone = 0 }
swaps (suc i) table coins =
    and_then (drawing (suc (suc i)) coins) (λ j. swaps i (swapped table (suc i) j) (after (drawing (suc (suc i)) coins) coins))

-- a box starts with each number at its own place
unfoldable pub making : ℕ → List ℕ → Outcome (List ℕ)
making a coins = cond (nat_le 2 a && nat_le a 4096) (swaps (a - 1) (range_with_len 0 a) coins) (refusal (own Range))

-- a call that makes a box in a table: it answers how many coins are gone, and leaves the box there, or is refused
abbrev pub MadeIn : List ℕ → Outcome (List ℕ) → Result ℕ Fault → Type 0
MadeIn table o (Ok taken) = o ≡ record { answer = Ok table; gone = taken }
MadeIn table o (Err f) = o.answer ≡ Err f

abbrev pub Shuffles : Type 0
Shuffles = (a : ℕ) (coins : List ℕ) → AllByRecursion (λ b. b < 2) coins → IfOk (making a coins).answer (Permutation a)
