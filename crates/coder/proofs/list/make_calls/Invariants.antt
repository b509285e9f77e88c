use Rattle.std.proofs.Common.{◌≡◌}
use Rattle.coder.proofs.Sofar.{Sofar}
use Rattle.coder.proofs.list.make_calls.Given as goal

abbrev pub invariant-loop-item : goal.invariant-loop-item
invariant-loop-item g l =
    let m = g.T.FormatCipher.meaning in
    (m l.coder.cipher ≡ m l.initial.coder.cipher) ×
    Sofar (m l.initial.coder.cipher) l.initial.coder.lanes l.coder.lanes l.initial.list l.list l.item-index
