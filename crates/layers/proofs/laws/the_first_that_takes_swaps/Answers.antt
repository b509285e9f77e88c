use Rattle.layers.specs.FirstsLemmas.{prefers}
use Rattle.layers.proofs.laws.the_first_that_takes_swaps.Goals as goal

pub returns : goal.returns
returns c = prefers
