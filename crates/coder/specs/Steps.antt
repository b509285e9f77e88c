-- What a call of any coder gives, whatever its lanes hold. Assumes nothing.
--   lane_at     what a lane is under, counted from 1
--   rebuilt     the shape, made from a record again by a check
--   asked_text  a text swapped by a cipher under a record's run and shape
--   Step        what a call gives, and the lanes after it
--   stepped     the step of a call
use Rattle.std.specs.Prelude.{ℕ, ◌-◌, cond, List, replicate, Some, None, Ok, Err, Option, Result, slice_index_or, slice_set}
use Rattle.alphabets.specs.declared.alphabet.Alphabet.{Alphabet}
use Rattle.faults.specs.declared.fault.Fault.{Fault}
use Rattle.formats.specs.Codes.{text_verdict, as_symbols, as_bytes}
use Rattle.faults.specs.Faults.{deeper}
use Rattle.formats.specs.Forms.{Form, remade}
use Rattle.ciphers.specs.Meanings.{Meaning}
use Rattle.ciphers.specs.Swaps.{Outcome, refused, swapped, unless_refused, swap}
use Rattle.coder.specs.Calls.{Call, starts, ends, masks, unmasks, restarts, lane_of, accepted}
use Rattle.coder.specs.Machine.{Held, held_of, judged}

abbrev pub lane_at : List (Option Held) → ℕ → Option Held
lane_at lanes k = slice_index_or lanes (k - 1) None

-- a record that is no shape's is refused as the check refuses it
abbrev pub rebuilt : Result Form Fault → (Form → Outcome) → Outcome
rebuilt (Ok f) then = then f
rebuilt (Err fault) then = refused fault

-- an outcome of the cipher, as the coder passes it on: a refusal one deeper, an image as its text
abbrev pub passed_on : Alphabet → Outcome → Outcome
passed_on a (refused fault) = refused (deeper fault)
passed_on a (swapped c) = swapped (as_bytes a c)

unfoldable pub asked_text : Meaning → (Form → List ℕ → List ℕ → List ℕ) → List ℕ → Held → Outcome
asked_text m go t u =
    rebuilt (remade u.shape) (λ f.
    unless_refused (text_verdict f t) (passed_on f.alphabet (swap m go f u.run (as_symbols f.alphabet t))))

pub record Step : Type 0 where
  pub outcome : Outcome
  pub lanes : List (Option Held)

-- an accepted start gives its lane a run and a shape, an accepted end takes them away, and a restart takes all away
abbrev pub lanes_after : Outcome → List (Option Held) → Call → List (Option Held)
lanes_after o lanes (starts k run f) = cond (accepted o) (slice_set lanes (k - 1) (Some (held_of run f))) lanes
lanes_after o lanes (ends k) = cond (accepted o) (slice_set lanes (k - 1) None) lanes
lanes_after o lanes (masks k t) = lanes
lanes_after o lanes (unmasks k t) = lanes
lanes_after o lanes restarts = replicate 8 None

abbrev pub stepped : Meaning → List (Option Held) → Call → Step
stepped m lanes c =
    let o = judged m (asked_text m m.forward) (asked_text m m.backward) (lane_at lanes (lane_of c)) c in
    record { outcome = o; lanes = lanes_after o lanes c }
