use Rattle.std.proofs.Common.{◌≡◌, ◌<◌, length, ap, ◌∙◌, arith, rules}
use Rattle.block_cipher.specs.Aes.{rounds}
use Rattle.block_cipher.specs.Keyed.{key_of}
use Rattle.block_cipher.specs.Words.{bytes_of, little16}
use Rattle.block_cipher.proofs.Schedule.{round_key_at, started, middle_long, middle_at, turn, encrypted}
use Rattle.block_cipher.proofs.aes.Aes128.encrypt_number.Goals as goal

pub loop-k-init : goal.loop-k-init
unfolding key_of
loop-k-init c =
    let s = c.args.self.now in
    let long : length s.round_keys ≡ 11 = search rules in
    started _ (little16 c.args.block) (bytes_of c.from.result) _ _ c.from.ensures (round_key_at _ s.round_keys long s.expanded 0 _ (omega arith)) c.add_round_key-s.ensures

pub loop-k-preserved : goal.loop-k-preserved
unfolding key_of
loop-k-preserved c =
    let s = c.args.self.now in
    let i = c.loop-k.k-index in
    let long : length s.round_keys ≡ 11 = search rules in
    let within : i < 9 = omega (arith, c.loop-k-test.true, middle_long s.round_keys long) in
    turn _ _ _ _ _ i c.loop-k.invariant (middle_at _ s.round_keys long s.expanded i _ within) c.round-s.ensures ∙ ap (rounds _ _) (omega arith)

pub returns : goal.returns
unfolding key_of
returns c =
    let s = c.args.self.now in
    let i = c.loop-k.k-index in
    let long : length s.round_keys ≡ 11 = search rules in
    let all : i ≡ 9 = omega (arith, c.loop-k-test.false, c.loop-k.auto.k-index-end, middle_long s.round_keys long) in
    encrypted _ (little16 c.args.block) _ _ _ (c.loop-k.invariant ∙ ap (rounds _ _) all) (round_key_at _ s.round_keys long s.expanded 10 _ (omega arith)) (c.from-2.ensures ∙ c.last_round.ensures)
