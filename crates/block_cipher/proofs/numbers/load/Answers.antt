use Rattle.std.proofs.Common.{rules}
use Rattle.block_cipher.proofs.Digits.{loaded}
use Rattle.block_cipher.proofs.numbers.load.Goals as goal

pub returns : goal.returns
returns c = loaded c.args.block _ (search rules) (search rules) c.from_le_bytes.ensures
