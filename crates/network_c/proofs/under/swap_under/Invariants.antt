use Rattle.std.proofs.Common.{◌≡◌, drop}
use Rattle.formats.specs.Shapes.{form}
use Rattle.network_c.specs.Under.{toward, under}
use Rattle.network_c.proofs.under.swap_under.Given as goal

abbrev pub invariant-loop-run : goal.invariant-loop-run
invariant-loop-run g l =
    let meaning = g.T.FormatCipher.meaning in
    let swaps = toward l.way (meaning l.initial.cipher) (form l.shape) in record {
      same : meaning l.cipher ≡ meaning l.initial.cipher;
      rest : under swaps (drop l.run-index l.runs) l.code ≡ under swaps l.runs l.initial.code;
    }
