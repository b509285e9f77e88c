use Rattle.codebook.specs.Numberings.{numbering}
use Rattle.codebook.proofs.laws.codes_are_numbered.Goals as goal

pub returns : goal.returns
returns c = numbering
