use Rattle.std.proofs.Common.{◌≡◌, ◌-◌, ◌≤◌, length, drop}
use Rattle.lines.proofs.Blocks.{Sofar}
use Rattle.lines.proofs.block.answer_block.Given as goal

abbrev pub invariant-loop-i : goal.invariant-loop-i
invariant-loop-i g l =
    let m = g.T.FormatCipher.meaning in
    let used = length l.block - length l.rest in
    (m l.coder.cipher ≡ m l.initial.coder.cipher) ×
    (length l.rest ≤ length l.block) ×
    (l.rest ≡ drop used l.block) ×
    Sofar (m l.initial.coder.cipher) l.initial.coder.lanes l.coder.lanes l.block used l.i l.initial.slots l.slots
