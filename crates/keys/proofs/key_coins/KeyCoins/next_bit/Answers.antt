use Rattle.std.proofs.Common.{◌%◌, length, refl, sym, ap, ◌∙◌, arith}
use Rattle.block_cipher.specs.Keyed.{key_of}
use Rattle.coins.proofs.Bits.{bit_of_bytes}
use Rattle.keys.proofs.BlockBits.{next_coin}
use Rattle.keys.proofs.Streams.{length_block}
use Rattle.keys.proofs.key_coins.KeyCoins.next_bit.Goals as goal

pub returns : goal.returns
returns c =
    let s = c.args.self.now in
    let long = ap length s.current ∙ length_block (key_of s.aes) s.iv _ in
    let bit = c.bit_of-bit.ensures ∙ sym (bit_of_bytes s.block (s.taken % 128) (omega (arith, long))) in
    let coin = next_coin (key_of s.aes) s.iv 4096 s.taken s.block c.bit_of-bit.result c.requires s.current bit in
    record { value = coin.0; below = coin.1; one = refl }
