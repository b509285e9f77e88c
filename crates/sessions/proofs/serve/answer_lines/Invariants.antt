use Rattle.std.proofs.Common.{◌≡◌, length}
use Rattle.sessions.proofs.serve.answer_lines.Given as goal

abbrev pub invariant-lines : goal.invariant-lines
invariant-lines g l = length l.slots ≡ 64

abbrev pub decreases-lines : goal.decreases-lines
decreases-lines g l = length l.rest
