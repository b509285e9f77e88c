-- What a lane is under, said of the list of calls. Assumes nothing.
--   Since      no accepted end on a lane and no restart came since
--   LastStart  a run and a shape are those of the last accepted start on a lane, with neither since
-- Lists of calls have the latest call first.
use Rattle.std.specs.Prelude.{◌≡◌, ℕ, true, List, [], ◌∷◌, ◌++◌, ◌≢◌}
use Rattle.ciphers.specs.Meanings.{Meaning}
use Rattle.coder.specs.Calls.{Call, starts, ends, restarts, accepted}
use Rattle.coder.specs.Machine.{Held, reply}

-- among the calls `later`, which were made after those of `base`
abbrev pub Since : Meaning → ℕ → List Call → List Call → Type 0
Since m k base [] = Unit {0}
Since m k base (c ∷ later) = (c ≢ restarts) × (c ≡ ends k → accepted (reply m (later ++ base) c) ≢ true) × Since m k base later

pub record LastStart (m : Meaning) (h : List Call) (k : ℕ) (u : Held) : Type 0 where
  pub later : List Call
  pub earlier : List Call
  pub calls : h ≡ later ++ (starts k u.run u.shape ∷ earlier)
  pub start : accepted (reply m earlier (starts k u.run u.shape)) ≡ true
  pub since : Since m k (starts k u.run u.shape ∷ earlier) later
