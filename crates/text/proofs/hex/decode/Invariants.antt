use Rattle.std.proofs.Common.{◌≡◌, ◌*◌, take, drop}
use Rattle.text.specs.Hex.{bytes_of}
use Rattle.text.proofs.Digits.{before}
use Rattle.text.proofs.hex.decode.Given as goal

abbrev pub invariant-loop-i : goal.invariant-loop-i
invariant-loop-i l =
    (drop l.i l.text ≡ drop l.i l.initial.text)
    × (before (take l.i l.text) (bytes_of l.letters (drop (2 * l.i) l.initial.text)) ≡ bytes_of l.letters l.initial.text)
