-- What is printed for a line, by the replies to the calls that lines spell. Assumes nothing.
--   calls_in     the call that a command asks for: none for a start with a shape that does not exist
--   calls_of     the call that a line spells, none where it is unreadable
--   done_line    what is printed for a call that gives no code
--   swap_line    what is printed for a mask or an unmask, with the text that it leaves
--   printed_in   what is printed for a command, if each call is replied as `say` says
--   printed_by   what is printed for a line, likewise
--   printed_for  what is printed for a line by the reference machine, after the calls of h, the latest first
use Rattle.std.specs.Prelude.{ℕ, List, [], ◌∷◌, Some, None, Ok, Err, Option, Result}
use Rattle.faults.specs.declared.fault.Cause.TheVariants.{Line}
use Rattle.faults.specs.declared.fault.Fault.{Fault}
use Rattle.faults.specs.Faults.{own}
use Rattle.formats.specs.Forms.{Form}
use Rattle.formats.specs.ShapeTexts.{read_form}
use Rattle.ciphers.specs.Meanings.{Meaning}
use Rattle.coder.specs.Calls.{Call, starts, ends, masks, unmasks, restarts, Reply, said}
use Rattle.coder.specs.Machine.{reply}
use Rattle.commands.specs.Commands.{Spelled, start, end, mask, unmask, restart, spelled}
use Rattle.printing.specs.Replies.{ok_line, code_line, fault_line}

-- a shape that was read, or why there is none
abbrev pub start_calls : ℕ → List ℕ → Result Form Fault → List Call
start_calls k run (Ok f) = starts k run f ∷ []
start_calls k run (Err fault) = []

abbrev pub calls_in : Option Spelled → List Call
calls_in None = []
calls_in (Some (start k run shape)) = start_calls k run (read_form shape)
calls_in (Some (end k)) = ends k ∷ []
calls_in (Some (mask k code)) = masks k code ∷ []
calls_in (Some (unmask k code)) = unmasks k code ∷ []
calls_in (Some restart) = restarts ∷ []

abbrev pub calls_of : List ℕ → List Call
calls_of line = calls_in (spelled line)

abbrev pub done_line : Option ℕ → Result Unit Fault → List ℕ
done_line lane (Ok u) = ok_line lane
done_line lane (Err fault) = fault_line lane fault

abbrev pub swap_line : ℕ → Result Unit Fault → List ℕ → List ℕ
swap_line k (Ok u) text = code_line (Some k) text
swap_line k (Err fault) text = fault_line (Some k) fault

-- the shape is read before the call is made
abbrev pub start_line : (Call → Reply) → ℕ → List ℕ → Result Form Fault → List ℕ
start_line say k run (Ok f) = done_line (Some k) (say (starts k run f)).answer
start_line say k run (Err fault) = fault_line (Some k) fault

abbrev pub printed_in : (Call → Reply) → Option Spelled → List ℕ
printed_in say None = fault_line None (own Line)
printed_in say (Some (start k run shape)) = start_line say k run (read_form shape)
printed_in say (Some (end k)) = done_line (Some k) (say (ends k)).answer
printed_in say (Some (mask k code)) = swap_line k (say (masks k code)).answer (say (masks k code)).text
printed_in say (Some (unmask k code)) = swap_line k (say (unmasks k code)).answer (say (unmasks k code)).text
printed_in say (Some restart) = done_line None (say restarts).answer

abbrev pub printed_by : (Call → Reply) → List ℕ → List ℕ
printed_by say line = printed_in say (spelled line)

-- what the reference machine says to a call
abbrev pub machine : Meaning → List Call → Call → Reply
machine m h c = said c (reply m h c)

abbrev pub printed_for : Meaning → List Call → List ℕ → List ℕ
printed_for m h line = printed_by (machine m h) line
