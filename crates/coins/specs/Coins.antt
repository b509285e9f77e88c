-- Coins: bits that wait, and how some of them are taken. Assumes nothing.
--   Bits       coins are bits, and fewer than 2^128, so that what is taken can be counted
--   number     the number that bits form, the first one highest
--   bits_of    the bits of bytes, the highest bit of each byte first
--   bits_from  those from a place on
--   Outcome    what a call on coins answers, and how many coins are gone then
--   after      the coins that wait then
--   counted    the call's answer, with how many coins it took where it is good
--   taking     what it is to take a count of coins
use Rattle.std.specs.Prelude.{ℕ, ◌+◌, ◌*◌, ◌/◌, ◌%◌, ◌^◌, ◌<◌, cond, ◌&&◌, List, [], ◌∷◌, ◌++◌, length, take, drop, Ok, Err, Result, nat_le}
use Rattle.std.specs.List.{AllByRecursion}
use Rattle.faults.specs.declared.fault.Cause.TheVariants.{Range, CoinsShort}
use Rattle.faults.specs.declared.fault.Fault.{Fault}
use Rattle.faults.specs.Faults.{own}

pub record Bits (coins : List ℕ) : Type 0 where
  pub each : AllByRecursion (λ b. b < 2) coins
  pub countable : length coins < 2 ^ 128

abbrev pub number : List ℕ → ℕ
number [] = 0
number (b ∷ bs) = b * 2 ^ length bs + number bs

abbrev pub byte_bits : ℕ → List ℕ
byte_bits b = b / 128 % 2 ∷ b / 64 % 2 ∷ b / 32 % 2 ∷ b / 16 % 2 ∷ b / 8 % 2 ∷ b / 4 % 2 ∷ b / 2 % 2 ∷ b % 2 ∷ []

abbrev pub bits_of : List ℕ → List ℕ
bits_of [] = []
bits_of (b ∷ bs) = byte_bits b ++ bits_of bs

abbrev pub bits_from : ℕ → List ℕ → List ℕ
bits_from place bytes = drop place (bits_of bytes)

pub record Outcome (A : Type 0) : Type 0 where
  pub answer : Result A Fault
  pub gone : ℕ

abbrev pub after : {A : Type 0} → Outcome A → List ℕ → List ℕ
after o coins = drop o.gone coins

abbrev pub with_count : {A : Type 0} → Result A Fault → ℕ → Result (A × ℕ) Fault
with_count (Ok x) n = Ok (x, n)
with_count (Err f) n = Err f

abbrev pub counted : {A : Type 0} → Outcome A → Result (A × ℕ) Fault
counted o = with_count o.answer o.gone

-- a refusal that takes nothing
abbrev pub refusal : {A : Type 0} → Fault → Outcome A
refusal f = record { answer = Err f; gone = 0 }

-- 1 to 16 coins are taken at a time, where so many wait
abbrev pub taking : ℕ → List ℕ → Outcome ℕ
taking count coins =
    cond (nat_le 1 count && nat_le count 16)
    (cond (nat_le count (length coins)) (record { answer = Ok (number (take count coins)); gone = count }) (refusal (own CoinsShort)))
    (refusal (own Range))
