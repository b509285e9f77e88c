use Rattle.block_lines.proofs.Forms.{answered}
use Rattle.block_lines.proofs.answer.lines_are_answered.Goals as goal

pub returns : goal.returns
returns c = answered
