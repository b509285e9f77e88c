use Rattle.std.proofs.Common.{Result, ap, subst}
use Rattle.faults.specs.declared.fault.Fault.{Fault}
use Rattle.ciphers.specs.Networks.{networked}
use Rattle.network_c.specs.Exports.{Plan, SwappedBy}
use Rattle.network_c.specs.Under.{number_in}
use Rattle.network_c.proofs.Made.{swapped_by}
use Rattle.network_c.proofs.ffi.swap_network.Goals as goal

pub returns : goal.returns
returns c =
    let runs = c.args.runs.now in
    let code = c.args.code.now in
    subst (λ (p : Result Plan Fault). SwappedBy networked c.args.way p runs code (number_in c.swap.result) c.swap.new.code) c.in_ok-make.ensures
    (swapped_by networked c.args.way c.in_ok-make.field-0 runs code _ c.swap.new.code (ap number_in c.swap.ensures.value) c.swap.ensures.after)
