use Rattle.std.proofs.Common.{length, arith}
use Rattle.block_cipher.specs.Keyed.{key_of}
use Rattle.keys.proofs.Streams.{stream_none, stream_more, stream_end}
use Rattle.keys.proofs.sequence.write_stream.Goals as goal

pub loop-i-init : goal.loop-i-init
loop-i-init c = stream_none (key_of c.args.aes.now) c.args.iv (length c.args.out.now) c.args.out.now

pub loop-i-preserved : goal.loop-i-preserved
loop-i-preserved c =
    stream_more (key_of c.args.aes.now) c.args.iv c.args.out.now c.loop-i.out c.counter_block.result c.copy_block.new.out c.loop-i.i (omega arith)
    c.counter_block.ensures c.loop-i.invariant c.copy_block.ensures

pub returns : goal.returns
returns c =
    stream_end (key_of c.args.aes.now) c.args.iv c.args.out.now c.loop-i.out c.div_ceil-i-end.result c.loop-i.i c.div_ceil-i-end.ensures (omega arith) (omega arith)
    c.loop-i.invariant
