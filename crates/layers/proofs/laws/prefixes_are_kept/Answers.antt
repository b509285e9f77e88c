use Rattle.layers.specs.KeepsLemmas.{keeps_prefix}
use Rattle.layers.specs.Shortened.{shortens}
use Rattle.layers.proofs.Shown.{examples}
use Rattle.layers.proofs.laws.prefixes_are_kept.Goals as goal

pub returns : goal.returns
returns c = record { shorter = shortens; kept = keeps_prefix; examples = examples }
