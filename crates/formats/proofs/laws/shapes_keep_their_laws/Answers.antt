use Rattle.formats.proofs.Limits.{bounded, makes, defaults_exist, tabled_as_published}
use Rattle.formats.proofs.Readings.{reads_exactly, examples}
use Rattle.formats.proofs.laws.shapes_keep_their_laws.Goals as goal

pub returns : goal.returns
returns c =
    record { bounded = bounded; made = makes; defaults = defaults_exist; read = reads_exactly; published = tabled_as_published; examples = examples }
