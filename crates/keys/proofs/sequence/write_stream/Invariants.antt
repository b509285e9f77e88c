use Rattle.std.proofs.Common.{◌≡◌, ◌*◌, ◌++◌, length, take, drop}
use Rattle.block_cipher.specs.Keyed.{key_of}
use Rattle.keys.specs.Sequences.{blocks}
use Rattle.keys.proofs.sequence.write_stream.Given as goal

abbrev pub invariant-loop-i : goal.invariant-loop-i
invariant-loop-i l = l.out ≡ take (length l.initial.out) (blocks (key_of l.aes) l.iv l.i) ++ drop (16 * l.i) l.initial.out
