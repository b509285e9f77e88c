-- What a call of a cipher gives: the refusals in their order, and the image. Assumes nothing.
--   checked           what every cipher finds by itself: the run name, the shape, the code's length, its symbols
--   Outcome           a refusal, or the code's image
--   swap              what a swap by a map of a meaning gives
--   onward, homeward  a swap by its forward or its backward map
--   answer            what the call answers
--   left              what the code holds then
--   one_past          a depth as a caller passes it up
--   barred_past       the depth at which a code is barred, seen from one call further up
--   passed_up         an answer from below as a caller passes it up
use Rattle.std.specs.Prelude.{ℕ, ◌+◌, min, Bool, cond, List, Some, None, Ok, Err, Option, Result}
use Rattle.faults.specs.declared.fault.Cause.TheVariants.{RunName, ShapeNotTaken, CodeBarred}
use Rattle.faults.specs.declared.fault.Fault.{Fault}
use Rattle.formats.specs.Codes.{code_verdict}
use Rattle.faults.specs.Faults.{own, deeper}
use Rattle.formats.specs.Forms.{Form}
use Rattle.alphabets.specs.RunNames.{legal}
use Rattle.ciphers.specs.Meanings.{Meaning}

unfoldable pub checked : Bool → Form → List ℕ → List ℕ → Result Unit Fault
checked taken f run c = cond (legal run) (cond taken (code_verdict f c) (Err (own ShapeNotTaken))) (Err (own RunName))

pub data Outcome : Type 0 where
  refused : Fault → Outcome
  swapped : List ℕ → Outcome

-- a barred code is refused at the depth at which it is barred
abbrev pub barred_at : ℕ → Fault
barred_at depth = record { cause = CodeBarred; place = 0; depth = depth }

abbrev pub unless_barred : Option ℕ → List ℕ → Outcome
unless_barred None image = swapped image
unless_barred (Some depth) image = refused (barred_at depth)

abbrev pub unless_refused : Result Unit Fault → Outcome → Outcome
unless_refused (Ok u) o = o
unless_refused (Err fault) o = refused fault

unfoldable pub swap : Meaning → (Form → List ℕ → List ℕ → List ℕ) → Form → List ℕ → List ℕ → Outcome
swap m go f run c = unless_refused (checked (m.taken f) f run c) (unless_barred (m.barred f c) (go f run c))

abbrev pub onward : Meaning → Form → List ℕ → List ℕ → Outcome
onward m = swap m m.forward

abbrev pub homeward : Meaning → Form → List ℕ → List ℕ → Outcome
homeward m = swap m m.backward

abbrev pub answer : Outcome → Result Unit Fault
answer (refused fault) = Err fault
answer (swapped image) = Ok tt

abbrev pub left : Outcome → List ℕ → List ℕ
left (refused fault) c = c
left (swapped image) c = image

-- one deeper, and never deeper than 65,535
abbrev pub one_past : ℕ → ℕ
one_past depth = min (depth + 1) 65535

abbrev pub barred_past : Option ℕ → Option ℕ
barred_past None = None
barred_past (Some depth) = Some (one_past depth)

abbrev pub passed_up : Result Unit Fault → Result Unit Fault
passed_up (Ok u) = Ok tt
passed_up (Err fault) = Err (deeper fault)
