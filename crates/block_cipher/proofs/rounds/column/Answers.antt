use Rattle.block_cipher.proofs.Quads as quads
use Rattle.block_cipher.proofs.rounds.column.Goals as goal

pub returns : goal.returns
returns c =
    quads.column c.row.result c.row-2.result c.row-3.result c.row-4.result c.args.k _ _ _ _ c.row.ensures c.row-2.ensures c.row-3.ensures c.row-4.ensures
