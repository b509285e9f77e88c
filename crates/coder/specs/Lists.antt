-- Whole lists of calls on a new coder, and what they give. Assumes nothing.
--   before   the calls before a place of the list, the latest first
--   told     what the reference machine says to each call of a list, in order
--   Asked    a call of the list, and what its lane is under then
--   leaves   the reply of an accepted call
--   names    a call on a lane
--   touches  a call on a lane, or a restart
--   on       the calls on a lane and the restarts, in their order
--   results  the replies to the calls on a lane, in their order
use Rattle.std.specs.Prelude.{◌≡◌, ℕ, Bool, true, false, cond, List, [], ◌∷◌, take, Some, Ok, ◌==◌}
use Rattle.std.specs.List.{slice_get}
use Rattle.ciphers.specs.Meanings.{Meaning}
use Rattle.coder.specs.Calls.{Call, starts, ends, masks, unmasks, restarts, Reply, said}
use Rattle.coder.specs.LastStart.{LastStart}
use Rattle.coder.specs.Machine.{Held, reply}

-- the calls h, and then those of a list in order; the latest first
abbrev pub past : List Call → List Call → List Call
past [] h = h
past (c ∷ cs) h = past cs (c ∷ h)

abbrev pub before : List Call → ℕ → List Call
before cs i = past (take i cs) []

-- after the calls h
abbrev pub told : Meaning → List Call → List Call → List Reply
told m h [] = []
told m h (c ∷ cs) = said c (reply m h c) ∷ told m (c ∷ h) cs

-- the call at place i is a `kind` of x, on a lane that is under u at that call
pub record Asked (m : Meaning) (cs : List Call) (kind : ℕ → List ℕ → Call) (i : ℕ) (u : Held) (x : List ℕ) : Type 0 where
  pub lane : ℕ
  pub call : slice_get cs i ≡ Some (kind lane x)
  pub under : LastStart m (before cs i) lane u

abbrev pub leaves : List ℕ → Reply
leaves t = record { answer = Ok tt; text = t }

abbrev pub names : ℕ → Call → Bool
names k (starts j run f) = j == k
names k (ends j) = j == k
names k (masks j t) = j == k
names k (unmasks j t) = j == k
names k restarts = false

abbrev pub touches : ℕ → Call → Bool
touches k (starts j run f) = j == k
touches k (ends j) = j == k
touches k (masks j t) = j == k
touches k (unmasks j t) = j == k
touches k restarts = true

abbrev pub on : ℕ → List Call → List Call
on k [] = []
on k (c ∷ cs) = cond (touches k c) (c ∷ on k cs) (on k cs)

abbrev pub results : ℕ → List Call → List Reply → List Reply
results k [] replies = []
results k (c ∷ cs) [] = []
results k (c ∷ cs) (r ∷ replies) = cond (names k c) (r ∷ results k cs replies) (results k cs replies)
