use Rattle.std.proofs.Common.{◌∙◌}
use Rattle.block_cipher.specs.MacKey.{mac_key_of}
use Rattle.keys.specs.Listed.{listed}
use Rattle.keys.proofs.Derives.{derives}
use Rattle.keys.proofs.derive.derive_sequence.Goals as goal

pub returns : goal.returns
returns c =
    derives (mac_key_of c.args.mac.now) (listed c.args.list.now) _ _ _ _ _ (c.as_slice.ensures ∙ c.encode-first.ensures) (c.as_slice-2.ensures ∙ c.encode-second.ensures)
    c.tag.ensures c.tag-2.ensures c.join.ensures
