use Rattle.lines.proofs.calls.answer_start.Goals as goal

pub returns : goal.returns
returns g c = c.read_and_start-answer.ensures c.say_done.result c.say_done.ensures.value c.say_done.ensures.short
