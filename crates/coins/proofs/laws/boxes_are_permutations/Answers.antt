use Rattle.coins.proofs.Boxes.{shuffles}
use Rattle.coins.proofs.laws.boxes_are_permutations.Goals as goal

pub returns : goal.returns
returns c = shuffles
