use Rattle.std.proofs.Common.{ap, ◌∙◌, rules}
use Rattle.block_cipher.specs.Words.{quad}
use Rattle.block_cipher.proofs.Bytes.{xor_byte}
use Rattle.block_cipher.proofs.Quads as quads
use Rattle.block_cipher.proofs.rounds.turned.Goals as goal

pub returns : goal.returns
returns c =
    let word = ap quad c.from_le_bytes.ensures ∙ quads.quad_word _ _ _ _ (xor_byte c.sub_byte.result c.args.rcon (search rules) (search rules)) (search rules) (search rules) (search rules) in
    quads.turned c.args.w c.args.rcon c.to_le_bytes-b.result _ _ _ _ _ c.to_le_bytes-b.ensures c.sub_byte.ensures.value c.sub_byte-2.ensures.value c.sub_byte-3.ensures.value c.sub_byte-4.ensures.value word
