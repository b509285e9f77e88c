use Rattle.std.proofs.Common.{◌-◌, length, arith}
use Rattle.block_cipher.proofs.Macs.{pads}
use Rattle.block_cipher.proofs.cmac.methods.pad.Goals as goal

pub returns : goal.returns
returns c =
    pads c.args.rest.now c.copy_from_slice.new.self (length c.args.rest.now - 0) c.copy_from_slice.ensures.after (omega arith) c.requires
