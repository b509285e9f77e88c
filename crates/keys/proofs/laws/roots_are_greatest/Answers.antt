use Rattle.keys.proofs.Roots.{rooted}
use Rattle.keys.proofs.laws.roots_are_greatest.Goals as goal

pub returns : goal.returns
returns c = rooted
