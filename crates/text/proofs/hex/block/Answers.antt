use Rattle.std.proofs.Common.{◌≡◌, ◌<◌, ◌*◌, ◌+◌, [], length, get_or, sym, ap, ◌∙◌, arith, length-set}
use Rattle.text.specs.Hex.{byte_of}
use Rattle.text.proofs.Digits.{pair_more, no_pair, pair_at, block_read, no_block, no_block_byte}
use Rattle.text.proofs.hex.block.Goals as goal
use Rattle.text.proofs.hex.block.Goals.{After-byte}

pub returns-then-text-ne32 : goal.returns-then-text-ne32
returns-then-text-ne32 c = no_block c.args.letters c.args.text.now c.if-text-ne32.true

-- the pair that the turn reads
within : (c : After-byte) → 2 * c.loop-i.i + 1 < length c.args.text.now
within c = omega (arith, c.loop-i-test.true, c.as_chunks.ensures.front_len, c.if-text-ne32.false)

read : (c : After-byte) → c.byte.result ≡ byte_of c.args.letters (get_or c.args.text.now (2 * c.loop-i.i) 0) (get_or c.args.text.now (2 * c.loop-i.i + 1) 0)
read c =
    let p = ap (λ ps. get_or ps c.loop-i.i []) c.as_chunks.ensures.front
    ∙ pair_at c.args.text.now _ c.loop-i.i [] (omega (arith, c.loop-i-test.true, c.as_chunks.ensures.front_len)) (omega arith) in
    c.byte.ensures ∙ ap (λ q. byte_of c.args.letters (get_or q 0 0) (get_or q 1 0)) p

pub returns-in_err-block : goal.returns-in_err-block
returns-in_err-block c =
    let at = (goal.at.returns-in_err-block c).After-byte in
    c.from_residual.ensures
    ∙ no_block_byte _ _ c.if-text-ne32.false (no_pair c.args.letters c.args.text.now c.loop-i.i (within at) c.loop-i.block (sym (sym (read at) ∙ c.in_err-block.was)) c.loop-i.invariant.1)

pub loop-i-preserved : goal.loop-i-preserved
loop-i-preserved c =
    let at = (goal.at.loop-i-preserved c).After-byte in
    (simp length-set c.loop-i.invariant.0, pair_more c.args.letters c.args.text.now c.loop-i.i (within at) c.loop-i.block _ (omega (arith, c.loop-i.invariant.0, within at, c.if-text-ne32.false)) (sym c.in_ok-block.was ∙ read at) c.loop-i.invariant.1)

pub returns : goal.returns
returns c =
    block_read c.args.letters c.args.text.now c.loop-i.block c.loop-i.i c.if-text-ne32.false c.loop-i.invariant.0 (omega (arith, c.loop-i-test.false, c.as_chunks.ensures.front_len, c.if-text-ne32.false)) c.loop-i.invariant.1
