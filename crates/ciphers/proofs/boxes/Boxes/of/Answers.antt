use Rattle.ciphers.proofs.Doubled.{reads}
use Rattle.ciphers.proofs.Opened.{reads_as}
use Rattle.ciphers.proofs.boxes.Boxes.of.Goals as goal

pub invariant_of-result : goal.invariant_of-result
invariant_of-result c =
    let p = c.args.pool.now in
    record { reads = reads_as c.radix.result p.radix c.radix.ensures c.forward.result.now p.forward c.forward.ensures (reads p.radix p.forward p.least p.most p.whole p.doubled p.inside) }
