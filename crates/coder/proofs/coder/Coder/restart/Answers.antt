use Rattle.std.proofs.Common.{length, ap}
use Rattle.std.specs.List.{list_all}
use Rattle.coder.specs.Records.{short_run}
use Rattle.coder.proofs.coder.Coder.restart.Goals as goal

pub invariant_of-self : goal.invariant_of-self
invariant_of-self g c = record { eight = ap length c.clear_all.ensures; short = ap (list_all short_run) c.clear_all.ensures }
