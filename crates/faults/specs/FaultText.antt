-- A fault as it is printed. Assumes nothing.
--   text_of  a mark, and the numbers of the cause, the place and the depth, with spaces between them
use Rattle.std.specs.Prelude.{ℕ, List, ◌++◌, codes}
use Rattle.std.specs.Fmt.{decimal}
use Rattle.faults.specs.Faults.{number_of}
use Rattle.faults.specs.declared.fault.Fault.{Fault}

abbrev pub text_of : Fault → List ℕ
text_of f = codes "!" ++ decimal (number_of f.cause) ++ codes " " ++ decimal f.place ++ codes " " ++ decimal f.depth
