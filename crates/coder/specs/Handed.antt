-- What it is that a coder has been handed on through calls, from a new one on. Assumes nothing.
--   Sound        a run and a shape that a lane can be under
--   Through      lanes that have been handed on through the calls, the latest call first
--   Follows      a call hands the lanes on, and gives what the reference machine gives
--   Existing     a call whose shape, if it names one, can be made again
--   AllExisting  the same of each call of a list
use Rattle.std.specs.Prelude.{◌≡◌, ℕ, ◌≤◌, true, List, ◌∷◌, length, Some, Ok, Option}
use Rattle.std.specs.List.{AllByRecursion}
use Rattle.formats.specs.Forms.{remade}
use Rattle.alphabets.specs.RunNames.{legal}
use Rattle.ciphers.specs.Meanings.{Meaning}
use Rattle.coder.specs.Calls.{Call, starts, ends, masks, unmasks, restarts, Reply, said}
use Rattle.coder.specs.Machine.{Held, held, reply}
use Rattle.coder.specs.Steps.{lane_at}

pub record Sound (m : Meaning) (u : Held) : Type 0 where
  -- the run name is legal, and the cipher takes the shape
  pub name : legal u.run ≡ true
  pub takes : m.taken u.shape ≡ true
  -- the check that makes the shape again does not fail
  pub rebuilds : remade u.shape ≡ Ok u.shape

pub record Through (m : Meaning) (lanes : List (Option Held)) (h : List Call) : Type 0 where
  pub eight : length lanes ≡ 8
  -- each lane is under what the calls say
  pub each : (k : ℕ) → 1 ≤ k → k ≤ 8 → lane_at lanes k ≡ held m h k
  pub sound : (k : ℕ) (u : Held) → held m h k ≡ Some u → Sound m u

abbrev pub Follows : Meaning → List (Option Held) → List (Option Held) → Call → Reply → Type 0
Follows m before after c r = (h : List Call) → Through m before h → Through m after (c ∷ h) × (r ≡ said c (reply m h c))

abbrev pub Existing : Call → Type 0
Existing (starts k run f) = remade f ≡ Ok f
Existing (ends k) = Unit {0}
Existing (masks k t) = Unit {0}
Existing (unmasks k t) = Unit {0}
Existing restarts = Unit {0}

abbrev pub AllExisting : List Call → Type 0
AllExisting = AllByRecursion Existing
