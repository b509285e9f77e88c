use Rattle.std.proofs.Common.{Result, ap, subst, ◌∙◌}
use Rattle.faults.specs.declared.fault.Fault.{Fault}
use Rattle.network_c.specs.Exports.{Plan, SwappedBy, nonzero}
use Rattle.network_c.specs.Readies.{by_ready}
use Rattle.network_c.specs.Under.{number_in}
use Rattle.network_c.proofs.Made.{swapped_by, walk_of}
use Rattle.network_c.proofs.ffi.walk_network.Goals as goal

pub returns : goal.returns
returns c =
    let runs = c.args.runs.now in
    let code = c.args.code.now in
    let is = ap (λ w. by_ready walk_of c.args.way w runs code) c.walked.ensures in
    subst (λ (p : Result Plan Fault). SwappedBy nonzero c.args.way p runs code (number_in c.swap.result) c.swap.new.code) c.in_ok-make.ensures
    (swapped_by nonzero c.args.way c.in_ok-make.field-0 runs code _ c.swap.new.code (ap number_in (c.swap.ensures.value ∙ ap (λ e. e.answer) is)) (c.swap.ensures.after ∙ ap (λ e. e.code) is))
