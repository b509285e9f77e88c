-- What the calls that encode a list answer. Assumes nothing.
--   written      the bytes of an encoding
--   written_in   the same in the answer of a call
--   encoding_of  what that answer is
use Rattle.std.specs.Prelude.{ℕ, cond, ◌&&◌, List, take, Ok, Err, Result, nat_le}
use Rattle.faults.specs.declared.fault.Cause.TheVariants.{Range, RunName}
use Rattle.faults.specs.declared.fault.Fault.{Fault}
use Rattle.faults.specs.Faults.{own}
use Rattle.alphabets.specs.RunNames.{legal}
use Rattle.keys.specs.declared.encoding.Encoding.{Encoding}
use Rattle.keys.specs.declared.label.Sequence.{Sequence}
use Rattle.keys.specs.Encodings.{encode}
use Rattle.keys.specs.Sequences.{sequence_list}

abbrev pub written : Encoding → List ℕ
written e = take e.len e.bytes

abbrev pub written_in : Result Encoding Fault → Result (List ℕ) Fault
written_in (Ok e) = Ok (written e)
written_in (Err fault) = Err fault

-- by the counter, the sequence, the radix, the length, the layers and the run name
abbrev pub encoding_of : ℕ → Sequence → ℕ → ℕ → ℕ → List ℕ → Result (List ℕ) Fault
encoding_of counter s radix len layers run =
    cond (nat_le 2 len && nat_le len 32)
    (cond (legal run) (Ok (encode counter (sequence_list s radix len layers run))) (Err (own RunName)))
    (Err (own Range))
