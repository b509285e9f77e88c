use Rattle.block_cipher.proofs.Quads.{quad_xor}
use Rattle.block_cipher.proofs.rounds.add_round_key.Goals as goal

pub returns : goal.returns
returns c =
    cc (quad_xor c.args.s.a c.args.k.a, quad_xor c.args.s.b c.args.k.b, quad_xor c.args.s.c c.args.k.c, quad_xor c.args.s.d c.args.k.d)
