-- The reference machine: what a call gives after the calls before it, from these calls alone. Assumes nothing.
--   Held          what a lane is under: a run and a shape
--   on_lane       refused unless the lane is 1 to 8
--   if_free       refused where the lane has a run
--   if_held       refused where the lane has none
--   swapped_text  a text swapped by a map of a meaning, under a run and a shape
--   judged        what a call gives on a lane, from what it is under: the causes in their order
--   outcome       the same by the meaning of a cipher
--   held          what a lane is under after the calls, the latest call first
--   reply         what a call gives after the calls
use Rattle.std.specs.Prelude.{ℕ, Bool, cond, ◌&&◌, List, [], ◌∷◌, Some, None, Option, ◌==◌, nat_le}
use Rattle.faults.specs.declared.fault.Cause.TheVariants.{Lane, RunName, LaneHasRun, ShapeNotTaken, LaneHasNoRun}
use Rattle.formats.specs.Codes.{text_verdict, as_symbols, as_bytes}
use Rattle.faults.specs.Faults.{own}
use Rattle.formats.specs.Forms.{Form}
use Rattle.alphabets.specs.RunNames.{legal}
use Rattle.ciphers.specs.Meanings.{Meaning}
use Rattle.ciphers.specs.Swaps.{Outcome, refused, unless_refused, unless_barred, barred_past}
use Rattle.coder.specs.Calls.{Call, starts, ends, masks, unmasks, restarts, lane_of, accepted, done}

pub record Held : Type 0 where
  pub run : List ℕ
  pub shape : Form

abbrev pub held_of : List ℕ → Form → Held
held_of run f = record { run = run; shape = f }

abbrev pub is_lane : ℕ → Bool
is_lane k = nat_le 1 k && nat_le k 8

abbrev pub on_lane : ℕ → Outcome → Outcome
on_lane k o = cond (is_lane k) o (refused (own Lane))

abbrev pub if_free : Option Held → Outcome → Outcome
if_free None o = o
if_free (Some u) o = refused (own LaneHasRun)

abbrev pub if_held : Option Held → (Held → Outcome) → Outcome
if_held None then = refused (own LaneHasNoRun)
if_held (Some u) then = then u

-- the length and the bytes are looked at first; a bar comes from the cipher, one call further down
unfoldable pub swapped_text : Meaning → (Form → List ℕ → List ℕ → List ℕ) → List ℕ → Held → Outcome
swapped_text m go t u =
    let f = u.shape in
    let c = as_symbols f.alphabet t in
    unless_refused (text_verdict f t) (unless_barred (barred_past (m.barred f c)) (as_bytes f.alphabet (go f u.run c)))

-- `forth` and `back` swap a text under a run and a shape
abbrev pub judged : Meaning → (List ℕ → Held → Outcome) → (List ℕ → Held → Outcome) → Option Held → Call → Outcome
judged m forth back u (starts k run f) =
    on_lane k (cond (legal run) (if_free u (cond (m.taken f) done (refused (own ShapeNotTaken)))) (refused (own RunName)))
judged m forth back u (ends k) = on_lane k (if_held u (λ _. done))
judged m forth back u (masks k t) = on_lane k (if_held u (forth t))
judged m forth back u (unmasks k t) = on_lane k (if_held u (back t))
judged m forth back u restarts = done

abbrev pub outcome : Meaning → Option Held → Call → Outcome
outcome m = judged m (swapped_text m m.forward) (swapped_text m m.backward)

abbrev pub held : Meaning → List Call → ℕ → Option Held
held m [] k = None
held m (starts j run f ∷ h) k =
    cond (j == k && accepted (outcome m (held m h j) (starts j run f))) (Some (held_of run f)) (held m h k)
held m (ends j ∷ h) k = cond (j == k && accepted (outcome m (held m h j) (ends j))) None (held m h k)
held m (masks j t ∷ h) k = held m h k
held m (unmasks j t ∷ h) k = held m h k
held m (restarts ∷ h) k = None

abbrev pub reply : Meaning → List Call → Call → Outcome
reply m h c = outcome m (held m h (lane_of c)) c
