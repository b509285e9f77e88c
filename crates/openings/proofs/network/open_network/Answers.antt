use Rattle.std.proofs.lemmas.Result.{err_from_is_err_and}
use Rattle.ciphers.specs.Held.{network_of}
use Rattle.openings.proofs.Networks.{refused, opens}
use Rattle.openings.proofs.network.open_network.Goals as goal

pub returns-in_err-pool : goal.returns-in_err-pool
returns-in_err-pool c =
    let p = err_from_is_err_and c.from_residual.result c.from_residual.ensures.1 in
    rw (p.1, p.2) (refused c.args.alphabet c.args.key _ c.radix.result c.new-mac.ensures c.radix.ensures c.in_err-pool.field-0.0 c.in_err-pool.ensures.value)

pub returns : goal.returns
returns c =
    opens c.args.alphabet c.args.key _ c.radix.result c.new-mac.ensures c.radix.ensures
    (network_of c.new.result) c.in_ok-pool.pool.origin c.in_ok-pool.pool.radix _ _ c.new.ensures
    c.in_ok-pool.ensures.made.0 c.in_ok-pool.ensures.made.1 c.in_ok-pool.ensures.value
