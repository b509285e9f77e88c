-- The entries of a list of calls, as calls before they are made and as replies after. Assumes nothing.
--   call_of   the call that a command asks for
--   asks      the call that an entry asks for
--   says      the reply that an entry holds
--   bare      a call without its text
--   still     the call of an entry, without its text
--   Answered  an entry that holds an answer
use Rattle.std.specs.Prelude.{◌≡◌, true, [], is_some, Some, None, Ok, vec_items, Option, Result}
use Rattle.faults.specs.declared.fault.Fault.{Fault}
use Rattle.formats.specs.Shapes.{form}
use Rattle.coder.specs.declared.list.Command.{Command}
use Rattle.coder.specs.declared.list.Command.TheVariants.{Start, End, Mask, Unmask, Restart}
use Rattle.coder.specs.declared.list.Entry.{Entry}
use Rattle.coder.specs.Calls.{Call, starts, ends, masks, unmasks, restarts, text_of, Reply}

abbrev pub call_of : Command → Call
call_of (Start k run shape) = starts k (vec_items run) (form shape)
call_of (End k) = ends k
call_of (Mask k t) = masks k (vec_items t)
call_of (Unmask k t) = unmasks k (vec_items t)
call_of Restart = restarts

abbrev pub asks : Entry → Call
asks e = call_of e.command

-- an entry that was not answered stands for no refusal
abbrev pub answered : Option (Result Unit Fault) → Result Unit Fault
answered None = Ok tt
answered (Some r) = r

abbrev pub says : Entry → Reply
says e = record { answer = answered e.answer; text = text_of (asks e) }

abbrev pub bare : Call → Call
bare (starts k run f) = starts k run f
bare (ends k) = ends k
bare (masks k t) = masks k []
bare (unmasks k t) = unmasks k []
bare restarts = restarts

abbrev pub still : Entry → Call
still e = bare (asks e)

abbrev pub Answered : Entry → Type 0
Answered e = is_some e.answer ≡ true
