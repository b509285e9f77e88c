-- The lines that are printed, with the byte that ends them. Assumes nothing.
--   lane_text   a lane in decimal, or a hyphen for none
--   fault_text  a fault as it is printed: !, and then number, place and depth in decimal
--   replied     a lane, a space, and what is said on it
--   ok_line     the line of a call that was done and gives no code
--   code_line   the line of a code
--   fault_line  the line of a refusal
use Rattle.std.specs.Prelude.{ℕ, List, [], ◌∷◌, ◌++◌, Some, None, codes, decimal, Option}
use Rattle.faults.specs.declared.fault.Fault.{Fault}
use Rattle.faults.specs.FaultText.{text_of}

-- the byte that ends a line
abbrev pub line_feed : ℕ
line_feed = 10

abbrev pub lane_text : Option ℕ → List ℕ
lane_text None = codes "-"
lane_text (Some k) = decimal k

unfoldable pub fault_text : Fault → List ℕ
fault_text f = text_of f

unfoldable pub replied : Option ℕ → List ℕ → List ℕ
replied lane said = lane_text lane ++ codes " " ++ said ++ (line_feed ∷ [])

abbrev pub ok_line : Option ℕ → List ℕ
ok_line lane = replied lane (codes "ok")

abbrev pub code_line : Option ℕ → List ℕ → List ℕ
code_line lane code = replied lane code

abbrev pub fault_line : Option ℕ → Fault → List ℕ
fault_line lane fault = replied lane (fault_text fault)
