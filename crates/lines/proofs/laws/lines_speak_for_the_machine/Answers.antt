use Rattle.lines.proofs.Spoken.{spoken}
use Rattle.lines.proofs.laws.lines_speak_for_the_machine.Goals as goal

pub returns : goal.returns
returns c = spoken
