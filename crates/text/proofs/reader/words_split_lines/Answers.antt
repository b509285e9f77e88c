use Rattle.text.proofs.Splits.{splits}
use Rattle.text.proofs.reader.words_split_lines.Goals as goal

pub returns : goal.returns
returns c = splits
