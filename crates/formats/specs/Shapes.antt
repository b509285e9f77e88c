-- Shapes: the form of a shape. Assumes nothing.
--   form    a shape as plain data
--   formed  the same in the answer of a call that makes a shape
use Rattle.std.specs.Prelude.{Ok, Err, Result}
use Rattle.faults.specs.declared.fault.Fault.{Fault}
use Rattle.formats.specs.declared.shape.Shape.{Shape}
use Rattle.formats.specs.Forms.{Form, form_of}

abbrev pub form : Shape → Form
form s = form_of s.alphabet s.len s.rounds

abbrev pub formed : Result Shape Fault → Result Form Fault
formed (Ok s) = Ok (form s)
formed (Err fault) = Err fault
