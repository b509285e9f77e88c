use Rattle.block_cipher.proofs.Quads.{schedule}
use Rattle.block_cipher.proofs.rounds.next_round_key.Goals as goal

pub returns : goal.returns
returns c =
    schedule c.args.k.a c.args.k.b c.args.k.c c.args.k.d c.turned.result _ c.turned.ensures
