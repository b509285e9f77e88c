use Rattle.coins.proofs.Tells.{tells}
use Rattle.coins.proofs.laws.test_tells_permutations.Goals as goal

pub returns : goal.returns
returns c = tells
