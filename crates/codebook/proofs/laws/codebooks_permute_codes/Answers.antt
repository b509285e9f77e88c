use Rattle.codebook.specs.Permuted.{keeps_laws}
use Rattle.codebook.proofs.laws.codebooks_permute_codes.Goals as goal

pub returns : goal.returns
returns c = keeps_laws
