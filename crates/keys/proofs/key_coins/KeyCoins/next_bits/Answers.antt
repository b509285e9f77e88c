use Rattle.std.proofs.Common.{◌≡◌, take, drop, refl, ap, ◌∙◌, arith}
use Rattle.coins.proofs.Bits.{number_room}
use Rattle.coins.specs.Coins.{number}
use Rattle.block_cipher.specs.Keyed.{key_of}
use Rattle.keys.specs.KeyBits.{remaining}
use Rattle.keys.specs.Sequences.{blocks}
use Rattle.keys.proofs.BlockBits.{coin_more}
use Rattle.keys.proofs.Streams.{length_blocks}
use Rattle.keys.proofs.key_coins.KeyCoins.next_bits.Goals as goal

pub overflow_mul-number : goal.overflow_mul-number
overflow_mul-number c =
    let s = c.args.self.now in
    let room = number_room (blocks (key_of s.aes) s.iv 4096) s.taken c.loop-i._i (omega arith) in
    omega (arith, c.loop-i.invariant.0)

pub overflow_add-number : goal.overflow_add-number
overflow_add-number c =
    let s = c.args.self.now in
    let room = number_room (blocks (key_of s.aes) s.iv 4096) s.taken c.loop-i._i (omega arith) in
    omega (arith, c.loop-i.invariant.0, c.next_bit.ensures.below)

pub next_bit-requires : goal.next_bit-requires
next_bit-requires c = omega (arith, c.loop-i.invariant.2)

pub loop-i-init : goal.loop-i-init
loop-i-init c = (refl, refl, omega arith)

pub loop-i-preserved : goal.loop-i-preserved
loop-i-preserved c =
    let s = c.args.self.now in
    let bs = blocks (key_of s.aes) s.iv 4096 in
    let coin = coin_more bs s.taken c.loop-i._i c.next_bit.result c.loop-i.number (remaining c.loop-i.self) (remaining c.next_bit.new.self)
    (omega (arith, length_blocks (key_of s.aes) s.iv 4096)) c.loop-i.invariant.0 c.loop-i.invariant.1 c.next_bit.ensures.value in
    (coin.0, coin.1, omega (arith, c.next_bit.ensures.one, c.loop-i.invariant.2))

pub returns : goal.returns
returns c =
    let all : c.loop-i._i ≡ c.args.count = omega arith in
    let coins = remaining c.args.self.now in
    record {
      value = c.loop-i.invariant.0 ∙ ap (λ n. number (take n coins)) all;
      after = c.loop-i.invariant.1 ∙ ap (λ n. drop n coins) all;
    }
