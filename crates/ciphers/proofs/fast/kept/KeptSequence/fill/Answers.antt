use Rattle.std.proofs.Common.{Some, ap, rules}
use Rattle.std.proofs.lemmas.Bool.{and_from}
use Rattle.block_cipher.specs.MacKey.{mac_key_of}
use Rattle.ciphers.proofs.Keeping.{filled_in}
use Rattle.ciphers.proofs.fast.kept.KeptSequence.fill.Goals as goal

pub returns : goal.returns
returns c =
    let w = c.args.wanted.now in
    record {
      labelled = ap Some c.of.ensures;
      indices = filled_in (mac_key_of c.args.mac.now) c.args.sequence c.args.radix _ w.len w.layers w.run.now c.of.ensures _ c.index_sequence.new.indices _ (and_from _ _ c.requires w.fits) w.named (search rules) c.index_sequence.auto.indices c.index_sequence.ensures.after;
    }
