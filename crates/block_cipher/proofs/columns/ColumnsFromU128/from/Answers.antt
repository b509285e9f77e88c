use Rattle.block_cipher.proofs.Digits.{split_is}
use Rattle.block_cipher.proofs.columns.ColumnsFromU128.from.Goals as goal

pub returns : goal.returns
returns c = split_is c.args.n
