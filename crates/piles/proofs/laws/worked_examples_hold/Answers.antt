use Rattle.piles.proofs.Shown.{worked_examples}
use Rattle.piles.proofs.laws.worked_examples_hold.Goals as goal

pub returns : goal.returns
returns c = worked_examples
