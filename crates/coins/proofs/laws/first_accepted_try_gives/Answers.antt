use Rattle.coins.proofs.Draws.{first_gives}
use Rattle.coins.proofs.laws.first_accepted_try_gives.Goals as goal

pub returns : goal.returns
returns c = first_gives
