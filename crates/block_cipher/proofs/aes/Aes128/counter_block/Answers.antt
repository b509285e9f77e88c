use Rattle.std.proofs.Common.{◌∙◌, rules}
use Rattle.block_cipher.proofs.Digits.{counted, swapped}
use Rattle.block_cipher.proofs.aes.Aes128.counter_block.Goals as goal

pub returns : goal.returns
returns c =
    counted _ c.args.iv _ _ c.from_be_bytes.result c.args.i (search rules) c.from_be_bytes.ensures (swapped _ c.swap_bytes.result c.swap_bytes.ensures) (c.store.ensures ∙ c.encrypt_number.ensures)
