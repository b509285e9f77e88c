use Rattle.std.proofs.Common.{refl, rules}
use Rattle.block_cipher.specs.Field.{x_times, mul_low, mul, square, squares, inverse, bit, affine_bit, from_bits, affine, sbox}
use Rattle.block_cipher.specs.declared.tables.TheConstants.{SBOX}
use Rattle.block_cipher.proofs.Fields.{substituted, inverted}
use Rattle.block_cipher.proofs.tables.sub_byte.Goals as goal

pub returns : goal.returns
unfolding x_times mul_low mul square squares inverse bit affine_bit from_bits affine sbox
returns c = record {
  value = substituted SBOX refl tt c.args.x (search rules);
  inverse = inverted c.args.x (search rules);
}
