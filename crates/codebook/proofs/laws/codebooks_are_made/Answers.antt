use Rattle.codebook.proofs.Causes.{made}
use Rattle.codebook.proofs.Shown.{examples}
use Rattle.codebook.proofs.laws.codebooks_are_made.Goals as goal

pub returns : goal.returns
returns c = record { made = made; examples = examples }
