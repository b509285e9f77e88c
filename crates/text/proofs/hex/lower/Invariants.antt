use Rattle.std.proofs.Common.{◌≡◌, ◌*◌, length, take}
use Rattle.text.specs.Hex.{digits_of}
use Rattle.text.proofs.hex.lower.Given as goal

abbrev pub invariant-loop-i : goal.invariant-loop-i
invariant-loop-i l = (length l.text ≡ 32) × (take (2 * l.i) l.text ≡ digits_of (take l.i l.fn.block))
