use Rattle.std.proofs.Common.{◌∙◌}
use Rattle.block_cipher.proofs.Digits.{stored}
use Rattle.block_cipher.proofs.numbers.store.Goals as goal

pub returns : goal.returns
returns c =
    stored c.args.n _ _ (c.copy_from_slice.ensures.after ∙ c.to_le_bytes-low.ensures) (c.copy_from_slice-2.ensures.after ∙ c.to_le_bytes-high.ensures)
