use Rattle.walk.specs.Walked.{walks, examples}
use Rattle.walk.proofs.laws.walks_reach_the_first_allowed.Goals as goal

pub returns : goal.returns
returns c = record { walks = walks; examples = examples }
