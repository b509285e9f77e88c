use Rattle.std.proofs.Common.{arith}
use Rattle.lines.proofs.Cuts.{swap_said}
use Rattle.lines.proofs.calls.swap_text.Goals as goal

pub returns : goal.returns
returns g c =
    swap_said g.T.FormatCipher.meaning c.args.coder.now c.call_swap-answer.new.coder c.args.lane c.args.text.now c.call_swap-answer.new.text c.call_swap-answer.result c.say_swapped.result
    (omega arith) c.say_swapped.ensures.value c.say_swapped.ensures.short c.args.way c.call_swap-answer.ensures
