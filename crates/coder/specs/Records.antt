-- What a lane's record says. Assumes nothing.
--   named      the run and the shape that a record names
--   views      what each lane is under, by its record
--   short_run  a lane has no run, or one of at most 32 bytes
--   seen       the run and the shape in the answer of a call that looks for a record
--   running    the answer to such a call on a lane: the run and the shape that it is under
use Rattle.std.specs.Prelude.{Bool, true, List, length, map, take, Some, None, Ok, Err, Option, Result, nat_le}
use Rattle.std.specs.Option.{option_map}
use Rattle.faults.specs.declared.fault.Cause.TheVariants.{LaneHasNoRun}
use Rattle.faults.specs.declared.fault.Fault.{Fault}
use Rattle.faults.specs.Faults.{own}
use Rattle.formats.specs.Forms.{form_of}
use Rattle.coder.specs.declared.record.Record.{Record}
use Rattle.coder.specs.Machine.{Held, held_of}

abbrev pub named : Record → Held
named r = held_of (take r.name_len r.name) (form_of r.alphabet r.len r.rounds)

abbrev pub views : List (Option Record) → List (Option Held)
views = map (option_map named)

abbrev pub short_run : Option Held → Bool
short_run None = true
short_run (Some u) = nat_le (length u.run) 32

abbrev pub seen : Result Record Fault → Result Held Fault
seen (Ok r) = Ok (named r)
seen (Err fault) = Err fault

abbrev pub running : Option Held → Result Held Fault
running None = Err (own LaneHasNoRun)
running (Some u) = Ok u
