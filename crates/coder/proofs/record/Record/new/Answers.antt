use Rattle.std.proofs.Common.{◌≤◌, length, replicate, sym, ap, arith}
use Rattle.std.proofs.lemmas.List.{length-take-le}
use Rattle.alphabets.proofs.RunNames.{tells}
use Rattle.coder.proofs.record.Record.new.Goals as goal
use Rattle.coder.proofs.record.Record.new.Goals.{After-as_bytes-run}

-- a run name has room in the field
fits : (c : After-as_bytes-run) → length c.as_bytes-run.result.now ≤ 32
fits c = omega (arith, ap length c.as_bytes-run.ensures, ((tells c.args.run.bytes.now).only c.args.run.legal).short)

pub slice_bounds-name-end : goal.slice_bounds-name-end
slice_bounds-name-end c = fits (goal.at.slice_bounds-name-end c).After-as_bytes-run

pub slice_bounds-copy_from_slice-end : goal.slice_bounds-copy_from_slice-end
slice_bounds-copy_from_slice-end c =
    sym (length-take-le (length c.as_bytes-run.result.now) (replicate 32 0) (fits (goal.at.slice_bounds-copy_from_slice-end c).After-as_bytes-run))

pub copy_from_slice-requires : goal.copy_from_slice-requires
copy_from_slice-requires c =
    length-take-le (length c.as_bytes-run.result.now) (replicate 32 0) (fits (goal.at.copy_from_slice-requires c).After-as_bytes-run)
