use Rattle.coins.proofs.Fair.{fair}
use Rattle.coins.proofs.laws.draws_are_fair.Goals as goal

pub returns : goal.returns
returns c = fair
