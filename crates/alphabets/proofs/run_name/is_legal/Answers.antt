use Rattle.std.proofs.Common.{rules}
use Rattle.alphabets.specs.RunNames.{legal}
use Rattle.alphabets.proofs.run_name.is_legal.Goals as goal

pub returns-then-contains : goal.returns-then-contains
unfolding legal
returns-then-contains c = search rules

pub returns-else-contains : goal.returns-else-contains
unfolding legal
returns-else-contains c = search rules
