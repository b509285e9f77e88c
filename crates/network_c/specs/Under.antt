-- A code swapped under one run after the other. Assumes nothing.
--   toward     a swap by a cipher's map one way or the other
--   way_of     the way that a flag says, which is true for back
--   Ended      what the code holds in the end, and the answer
--   under      a code swapped under one run after the other, up to the first refusal
--   number_in  an answer as a number: that of the cause, or 0
use Rattle.std.specs.Prelude.{ℕ, Bool, true, false, List, [], ◌∷◌, Ok, Err, Result}
use Rattle.faults.specs.declared.fault.Fault.{Fault}
use Rattle.faults.specs.Faults.{number_of}
use Rattle.formats.specs.Forms.{Form}
use Rattle.ciphers.specs.Meanings.{Meaning}
use Rattle.ciphers.specs.Swaps.{Outcome, refused, swapped, swap}
use Rattle.ciphers.specs.Ways.{map_of}
use Rattle.ciphers.specs.declared.way.Way.{Way}
use Rattle.ciphers.specs.declared.way.Way.TheVariants.{Forward, Backward}
use Rattle.network_c.specs.declared.ffi.Run.{Run}

abbrev pub toward : Way → Meaning → Form → List ℕ → List ℕ → Outcome
toward to m = swap m (map_of m to)

abbrev pub way_of : Bool → Way
way_of false = Forward
way_of true = Backward

pub record Ended : Type 0 where
  pub code : List ℕ
  pub answer : Result Unit Fault

abbrev pub go_on : Outcome → List ℕ → (List ℕ → Ended) → Ended
go_on (refused fault) c rest = record { code = c; answer = Err fault }
go_on (swapped image) c rest = rest image

-- by a swap that takes a run name and a code
unfoldable pub under : (List ℕ → List ℕ → Outcome) → List Run → List ℕ → Ended
under swaps [] c = record { code = c; answer = Ok tt }
under swaps (run ∷ runs) c = go_on (swaps run.name c) c (under swaps runs)

abbrev pub number_in : Result Unit Fault → ℕ
number_in (Ok u) = 0
number_in (Err fault) = number_of fault.cause
