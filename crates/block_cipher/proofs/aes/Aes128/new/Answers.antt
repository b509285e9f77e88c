use Rattle.std.proofs.Common.{◌≡◌, ℕ, [], get_or, map, replicate, refl, subst, ◌∙◌, arith, length-set}
use Rattle.block_cipher.specs.Field.{x_times}
use Rattle.block_cipher.specs.Aes.{rcon, round_key}
use Rattle.block_cipher.specs.Keyed.{key_of}
use Rattle.block_cipher.specs.Words.{bytes_of}
use Rattle.block_cipher.specs.declared.aes.methods.TheConstants.{RCON}
use Rattle.block_cipher.proofs.Schedule.{one_more, expansion, constants}
use Rattle.block_cipher.proofs.aes.Aes128.new.Goals as goal

pub loop-i-init : goal.loop-i-init
unfolding round_key
loop-i-init c =
    let first : bytes_of c.from-k.result ≡ round_key c.args.key 0 = c.from-k.ensures ∙ c.load.ensures in
    record { long = refl; now = first; so_far = λ j h. let e : 0 ≡ j = omega (arith, h) in let P : ℕ → Type 0 = λ n. get_or (map bytes_of (replicate 11 c.from-k.result)) n [] ≡ round_key c.args.key n in subst P e first }

pub loop-i-preserved : goal.loop-i-preserved
unfolding x_times rcon
loop-i-preserved c =
    let more = one_more c.args.key c.loop-i.round_keys c.loop-i.k c.next_round_key-k.result _ c.loop-i.i c.loop-i.invariant.long c.loop-i-test.true (constants RCON refl tt c.loop-i.i c.loop-i-test.true) c.loop-i.invariant.now c.next_round_key-k.ensures c.loop-i.invariant.so_far in
    record { long = length-set _ _ _ ∙ c.loop-i.invariant.long; now = more.0; so_far = more.1 }

pub invariant_of-result : goal.invariant_of-result
invariant_of-result c =
    record { expanded = expansion c.args.key c.loop-i.round_keys c.loop-i.invariant.long (λ j h. c.loop-i.invariant.so_far j (omega (arith, h, c.loop-i-test.false))) }

pub returns : goal.returns
unfolding key_of round_key
returns c = c.loop-i.invariant.so_far 0 (omega arith)
