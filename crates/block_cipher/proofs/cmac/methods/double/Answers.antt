use Rattle.std.proofs.Common.{◌≡◌, ◌∙◌, arith, rules}
use Rattle.block_cipher.specs.Cmac.{doubled}
use Rattle.block_cipher.proofs.Digits.{stored_high}
use Rattle.block_cipher.proofs.Macs.{doubled_low, doubled_high, doubles}
use Rattle.block_cipher.proofs.cmac.methods.double.Goals as goal
use Rattle.block_cipher.proofs.cmac.methods.double.Goals.{then-n-eq0, else-n-eq0}

pub returns : goal.returns
returns c =
    let n = c.from_be_bytes-n.result in
    let twice : c.if-n-eq0.reduced ≡ doubled n =
    elim c.if-n-eq0.branch [
      | then-n-eq0 w ↦ doubled_low n _ w.if-n-eq0.true w.reduced-is
      | else-n-eq0 w ↦ doubled_high n _ (omega (arith, w.if-n-eq0.false)) w.reduced-is
    ] in
    doubles c.args.x _ n c.if-n-eq0.reduced (search rules) c.from_be_bytes-n.ensures twice (c.to_be_bytes.ensures ∙ stored_high c.if-n-eq0.reduced)
