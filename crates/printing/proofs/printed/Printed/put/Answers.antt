use Rattle.std.proofs.Common.{length, ap, arith}
use Rattle.printing.specs.Rows.{as_long}
use Rattle.printing.proofs.Rows.{row_after}
use Rattle.printing.proofs.printed.Printed.put.Goals as goal

pub invariant_of-self : goal.invariant_of-self
invariant_of-self c =
    let bytes = c.self.inside.bytes in
    let len = c.self.inside.len in
    rw c.copy_from_slice.ensures.after
    (row_after bytes len c.self.invariant c.args.text.now (omega (arith, ap length c.self.view_is, as_long bytes len c.self.invariant)))
