use Rattle.std.proofs.Common.{rules}
use Rattle.block_cipher.proofs.Digits.{join_is}
use Rattle.block_cipher.proofs.columns.U128FromColumns.from.Goals as goal

pub returns : goal.returns
returns c =
    let s = c.args.s in
    join_is _ s.a s.b s.c s.d (search rules) (search rules) (search rules) (search rules) (cc (c.from.ensures, c.from-2.ensures, c.from-3.ensures, c.from-4.ensures))
