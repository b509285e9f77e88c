use Rattle.std.proofs.Common.{◌∙◌}
use Rattle.network_c.proofs.Made.{masked_by}
use Rattle.network_c.proofs.ffi.network_mask.Goals as goal

pub returns : goal.returns
returns c =
    let is = masked_by _ c.args.runs.now c.args.code.now _ _ c.swap_network.ensures in
    record { value = c.number.ensures ∙ is.0; after = is.1 }
