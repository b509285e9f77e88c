use Rattle.walk.specs.Listed.{all_codes}
use Rattle.walk.proofs.laws.codes_are_listed.Goals as goal

pub returns : goal.returns
returns c = all_codes
