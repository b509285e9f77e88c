use Rattle.std.proofs.Common.{◌-◌, ap, arith}
use Rattle.layers.specs.Shortened.{rest_made}
use Rattle.layers.proofs.keep_prefix.cipher.rest_shape.Goals as goal

pub returns : goal.returns
returns c =
    rest_made c.args.kept c.args.shape.now c.remake.result c.ok.result (omega (arith, c.len-len.ensures, c.if-len-kept.false)) c.alphabet.ensures (ap (λ n. n - c.args.kept) c.len-len.ensures) c.rest_rounds-rounds.ensures c.remake.ensures c.ok.ensures.value
