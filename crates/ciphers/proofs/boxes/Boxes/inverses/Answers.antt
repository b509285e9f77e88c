use Rattle.ciphers.proofs.Doubled.{reads}
use Rattle.ciphers.proofs.Opened.{reads_as}
use Rattle.ciphers.proofs.boxes.Boxes.inverses.Goals as goal

pub invariant_of-result : goal.invariant_of-result
invariant_of-result c =
    let p = c.args.pool.now in
    record { reads = reads_as c.radix.result p.radix c.radix.ensures c.inverse.result.now p.inverse c.inverse.ensures (reads p.radix p.inverse p.least p.most p.whole_inverse p.doubled_inverse p.inside_inverse) }
