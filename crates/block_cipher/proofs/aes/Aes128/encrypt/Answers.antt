use Rattle.std.proofs.Common.{ap, ◌∙◌}
use Rattle.block_cipher.specs.Aes.{cipher}
use Rattle.block_cipher.specs.Keyed.{key_of}
use Rattle.block_cipher.proofs.aes.Aes128.encrypt.Goals as goal

pub returns : goal.returns
returns c =
    c.store.ensures ∙ (c.encrypt_number.ensures ∙ ap (cipher (key_of c.args.self.now)) c.load.ensures)
