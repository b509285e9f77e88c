use Rattle.std.proofs.Common.{◌+◌, ◌-◌, length, arith}
use Rattle.ciphers.proofs.Opened.{opens}
use Rattle.ciphers.proofs.code.opened.Goals as goal

pub returns : goal.returns
returns c =
    let len = length c.args.code.now in
    opens c.args.code.now c.copy_from_slice.new.self c.args.from (c.args.from + len - c.args.from) c.copy_from_slice.ensures.after (omega arith) (omega (arith, c.requires.0, c.requires.1))
