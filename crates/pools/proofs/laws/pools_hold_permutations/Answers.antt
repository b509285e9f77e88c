use Rattle.pools.proofs.Held.{holds}
use Rattle.pools.proofs.laws.pools_hold_permutations.Goals as goal

pub returns : goal.returns
returns c = holds
