use Rattle.text.proofs.Digits.{reads_back}
use Rattle.text.proofs.hex.digits_read_back.Goals as goal

pub returns : goal.returns
returns c = reads_back
