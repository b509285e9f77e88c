-- How long a line can be. Assumes nothing.
use Rattle.std.proofs.Common.{ℕ, ◌^◌, ◌<◌, ◌≤◌, List, [], ◌∷◌, ◌++◌, length, codes, decimal, Option, arith}
use Rattle.std.proofs.lemmas.Fmt.{length-decimal-le}
use Rattle.std.proofs.lemmas.List.{length-append}
use Rattle.faults.specs.declared.fault.Fault.{Fault}
use Rattle.faults.specs.Faults.{number_of}
use Rattle.printing.specs.Replies.{lane_text, fault_text, replied, line_feed}

few_digits : (n : ℕ) → n < 256 → length (decimal n) ≤ 3
few_digits n h = length-decimal-le 3 n (omega arith) (omega arith) (omega arith)

pub short_fault : (f : Fault) → number_of f.cause < 256 → f.place < 2 ^ 64 → f.depth < 2 ^ 16 → length (fault_text f) ≤ 31
unfolding fault_text
short_fault f h k l =
    let number : List ℕ = decimal (number_of f.cause) in
    let place : List ℕ = decimal f.place in
    let depth : List ℕ = decimal f.depth in
    omega (
      arith,
      few_digits (number_of f.cause) h,
      length-decimal-le 20 f.place (omega arith) (omega arith) k,
      length-decimal-le 5 f.depth (omega arith) (omega arith) (omega arith),
      length-append (codes "!") number,
      length-append (codes "!" ++ number) (codes " "),
      length-append (codes "!" ++ number ++ codes " ") place,
      length-append (codes "!" ++ number ++ codes " " ++ place) (codes " "),
      length-append (codes "!" ++ number ++ codes " " ++ place ++ codes " ") depth,
    )

pub short_line : (lane : Option ℕ) (said : List ℕ) → length (lane_text lane) ≤ 3 → length said ≤ 32 → length (replied lane said) ≤ 48
unfolding replied
short_line lane said h k =
    omega (arith, length-append (lane_text lane) (codes " "), length-append (lane_text lane ++ codes " ") said, length-append (lane_text lane ++ codes " " ++ said) (line_feed ∷ []))
