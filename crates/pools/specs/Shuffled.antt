-- Shuffled: 256 boxes from coins, one after the other. Assumes nothing.
--   next_box  a box, and then the boxes after it
--   makings   boxes of a radix, from one place on
--   pooling   what it is to make a pool from coins
use Rattle.std.specs.Prelude.{ℕ, zero, suc, ◌+◌, cond, ◌&&◌, List, [], ◌∷◌, Ok, Err, Result, nat_le}
use Rattle.faults.specs.declared.fault.Cause.TheVariants.{Range}
use Rattle.faults.specs.declared.fault.Fault.{Fault}
use Rattle.faults.specs.Faults.{own, placed, deeper}
use Rattle.coins.specs.Boxes.{making}
use Rattle.coins.specs.Coins.{Outcome, refusal, after}

abbrev pub before : List ℕ → Result (List (List ℕ)) Fault → Result (List (List ℕ)) Fault
before box (Ok boxes) = Ok (box ∷ boxes)
before box (Err f) = Err f

-- a refusal is passed up, with the number of the box for its place
abbrev pub next_box : ℕ → Result (List ℕ) Fault → ℕ → Outcome (List (List ℕ)) → Outcome (List (List ℕ))
next_box n (Ok box) gone rest = record { answer = before box rest.answer; gone = gone + rest.gone }
next_box n (Err f) gone rest = record { answer = Err (placed (deeper f) n); gone = gone }

-- box n and those after it, `more` in all: each goes on with the coins that the one before it left
unfoldable pub makings : ℕ → ℕ → ℕ → List ℕ → Outcome (List (List ℕ))
makings a n zero coins = record { answer = Ok []; gone = 0 }
makings a n (suc more) coins =
    next_box n (making a coins).answer (making a coins).gone (makings a (suc n) more (after (making a coins) coins))

unfoldable pub pooling : ℕ → List ℕ → Outcome (List (List ℕ))
pooling a coins = cond (nat_le 4 a && nat_le a 64) (makings a 0 256 coins) (refusal (own Range))
