-- Faults: the numbers of the causes, and how a fault is made and passed up. Assumes nothing.
--   number_of  a cause's number
--   own        a call's own fault: place 0, depth 0
--   placed     a fault at another place
--   deeper     a fault as a caller passes it up
use Rattle.std.specs.Prelude.{ℕ, ◌+◌, min}
use Rattle.faults.specs.declared.fault.Cause.{Cause}
use Rattle.faults.specs.declared.fault.Cause.TheVariants.{Range, ShapeText, Length, Rounds, Lane, RunName, LaneHasRun, ShapeNotTaken, LaneHasNoRun, CodeLength, NotASymbol, CodeBarred, CoinsShort, PoolFile, PoolRow, Line}
use Rattle.faults.specs.declared.fault.Fault.{Fault}

abbrev pub number_of : Cause → ℕ
number_of Range = 1
number_of ShapeText = 2
number_of Length = 3
number_of Rounds = 4
number_of Lane = 5
number_of RunName = 6
number_of LaneHasRun = 7
number_of ShapeNotTaken = 8
number_of LaneHasNoRun = 9
number_of CodeLength = 10
number_of NotASymbol = 11
number_of CodeBarred = 12
number_of CoinsShort = 13
number_of PoolFile = 14
number_of PoolRow = 15
number_of Line = 16

abbrev pub own : Cause → Fault
own cause = record { cause = cause; place = 0; depth = 0 }

abbrev pub placed : Fault → ℕ → Fault
placed f place = record { cause = f.cause; place = place; depth = f.depth }

-- one deeper, and never deeper than 65,535
abbrev pub deeper : Fault → Fault
deeper f = record { cause = f.cause; place = f.place; depth = min (f.depth + 1) 65535 }
