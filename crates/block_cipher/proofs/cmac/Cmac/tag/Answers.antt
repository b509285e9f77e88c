use Rattle.std.proofs.Common.{◌≡◌, ◌<◌, ◌≤◌, ◌*◌, ◌/◌, [], length, get_or, take, ap, ◌∙◌, arith}
use Rattle.std.proofs.lemmas.List.{length-take-le}
use Rattle.std.proofs.lemmas.Slice.{between_to_end}
use Rattle.block_cipher.specs.MacKey.{mac_key_of}
use Rattle.block_cipher.specs.Words.{little16}
use Rattle.block_cipher.proofs.Digits.{little_xor}
use Rattle.block_cipher.proofs.Macs.{chunk_at, chain_more, chain_end}
use Rattle.block_cipher.proofs.cmac.Cmac.tag.Goals as goal

pub loop-block-preserved : goal.loop-block-preserved
unfolding mac_key_of
loop-block-preserved c =
    let m = c.args.message.now in
    let i = c.loop-block.block-index in
    let n = c.saturating_sub-before.result / 16 in
    let fits : n ≤ length m / 16 = omega (arith, c.saturating_sub-before.ensures) in
    let within : i < n = omega (arith, c.loop-block-test.true, length-take-le n c.as_chunks.result.0.now (omega (arith, fits, c.as_chunks.ensures.front_len))) in
    let part = ap (λ bs. get_or (take n bs) i []) c.as_chunks.ensures.front ∙ chunk_at m n (length m / 16) i [] within fits in
    let block = c.load.ensures ∙ part in
    chain_more _ m _ _ _ _ n i within block (little_xor c.loop-block.chain c.load.result) c.encrypt_number-chain.ensures ∙ c.loop-block.invariant

pub returns : goal.returns
unfolding mac_key_of
returns c =
    let m = c.args.message.now in
    let n = c.saturating_sub-before.result / 16 in
    let fits : n ≤ length m / 16 = omega (arith, c.saturating_sub-before.ensures) in
    let all : c.loop-block.block-index ≡ n = omega (arith, c.loop-block-test.false, c.loop-block.auto.block-index-end, length-take-le n c.as_chunks.result.0.now (omega (arith, fits, c.as_chunks.ensures.front_len))) in
    chain_end _ m (little16 c.loop-block.chain) _ _ _ _ n c.loop-block.block-index all (ap (λ k. k / 16) c.saturating_sub-before.ensures) (between_to_end m (16 * n) (length m) (omega arith)) c.last_block-last.ensures (little_xor c.loop-block.chain c.last_block-last.result) (c.store.ensures ∙ c.encrypt_number.ensures) c.loop-block.invariant
