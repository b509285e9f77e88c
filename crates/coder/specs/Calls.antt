-- The calls of a coder, and what a call gives. Assumes nothing.
--   Call      the five calls, with what each hands in
--   turns     a mask or an unmask, by its way
--   lane_of   the lane that a call names
--   text_of   the text that a call hands in
--   Reply     a call's result: its answer, and the text that it leaves
--   said      the reply of an outcome
--   accepted  an outcome that is no refusal
--   done      an accepted call that has no text
use Rattle.std.specs.Prelude.{ℕ, Bool, true, false, List, [], Result}
use Rattle.faults.specs.declared.fault.Fault.{Fault}
use Rattle.formats.specs.Forms.{Form}
use Rattle.ciphers.specs.declared.way.Way.{Way}
use Rattle.ciphers.specs.declared.way.Way.TheVariants.{Forward, Backward}
use Rattle.ciphers.specs.Swaps.{Outcome, refused, swapped, answer, left}

-- a start names a lane, a run and a shape; a mask and an unmask a lane and a text
pub data Call : Type 0 where
  starts : ℕ → List ℕ → Form → Call
  ends : ℕ → Call
  masks : ℕ → List ℕ → Call
  unmasks : ℕ → List ℕ → Call
  restarts : Call

abbrev pub turns : Way → ℕ → List ℕ → Call
turns Forward = masks
turns Backward = unmasks

-- a restart names none
abbrev pub lane_of : Call → ℕ
lane_of (starts k run f) = k
lane_of (ends k) = k
lane_of (masks k t) = k
lane_of (unmasks k t) = k
lane_of restarts = 0

abbrev pub text_of : Call → List ℕ
text_of (starts k run f) = []
text_of (ends k) = []
text_of (masks k t) = t
text_of (unmasks k t) = t
text_of restarts = []

pub record Reply : Type 0 where
  pub answer : Result Unit Fault
  pub text : List ℕ

-- a refused call leaves its text
abbrev pub said : Call → Outcome → Reply
said c o = record { answer = answer o; text = left o (text_of c) }

abbrev pub accepted : Outcome → Bool
accepted (refused fault) = false
accepted (swapped text) = true

abbrev pub done : Outcome
done = swapped []
