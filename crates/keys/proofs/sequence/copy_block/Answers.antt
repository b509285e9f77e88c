use Rattle.std.proofs.Common.{arith}
use Rattle.keys.proofs.Pieces.{block_copied}
use Rattle.keys.proofs.sequence.copy_block.Goals as goal

pub returns : goal.returns
returns c =
    block_copied c.args.block c.args.out.now c.copy_from_slice.new.self c.args.from c.min-count.result _ _ (omega arith) c.requires
    c.min-count.ensures (omega arith) (omega arith) c.copy_from_slice.ensures.after
