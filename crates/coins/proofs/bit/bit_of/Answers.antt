use Rattle.std.proofs.Common.{◌%◌, sym, ◌∙◌, arith}
use Rattle.std.proofs.lemmas.Nat.{and_mask}
use Rattle.coins.proofs.Bits.{byte_at}
use Rattle.coins.proofs.bit.bit_of.Goals as goal

pub returns : goal.returns
returns c = c.from.ensures ∙ and_mask _ 1 ∙ sym (byte_at c.args.byte (c.args.place % 8) (omega arith))
