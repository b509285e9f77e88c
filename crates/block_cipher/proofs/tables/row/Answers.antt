use Rattle.std.proofs.Common.{refl, rules}
use Rattle.block_cipher.specs.Field.{x_times, mul_low, mul, square, squares, inverse, bit, affine_bit, from_bits, affine, sbox}
use Rattle.block_cipher.specs.declared.tables.TheConstants.{ROWS}
use Rattle.block_cipher.proofs.Fields.{mixed}
use Rattle.block_cipher.proofs.tables.row.Goals as goal

pub returns : goal.returns
unfolding x_times mul_low mul square squares inverse bit affine_bit from_bits affine sbox
returns g c = mixed ROWS refl tt g.row.R c.args.x c.requires (search rules)
