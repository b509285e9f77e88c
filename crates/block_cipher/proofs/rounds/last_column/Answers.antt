use Rattle.std.proofs.Common.{ap, ◌∙◌, rules}
use Rattle.block_cipher.specs.Aes.{xor_word}
use Rattle.block_cipher.specs.Words.{quad}
use Rattle.block_cipher.proofs.Quads.{quad_xor, quad_word, word_of}
use Rattle.block_cipher.proofs.rounds.last_column.Goals as goal

pub returns : goal.returns
returns c =
    let word = ap quad c.from_le_bytes.ensures ∙ quad_word _ _ _ _ (search rules) (search rules) (search rules) (search rules) in
    quad_xor c.from_le_bytes.result c.args.k
    ∙ ap (λ l. xor_word l (quad c.args.k)) (word_of word c.sub_byte.ensures.value c.sub_byte-2.ensures.value c.sub_byte-3.ensures.value c.sub_byte-4.ensures.value)
