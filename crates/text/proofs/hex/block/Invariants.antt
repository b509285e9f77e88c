use Rattle.std.proofs.Common.{◌≡◌, ◌*◌, length, take, drop}
use Rattle.text.specs.Hex.{bytes_of}
use Rattle.text.proofs.Digits.{before}
use Rattle.text.proofs.hex.block.Given as goal

abbrev pub invariant-loop-i : goal.invariant-loop-i
invariant-loop-i l =
    (length l.block ≡ 16)
    × (before (take l.i l.block) (bytes_of l.letters (drop (2 * l.i) l.text)) ≡ bytes_of l.letters l.text)
