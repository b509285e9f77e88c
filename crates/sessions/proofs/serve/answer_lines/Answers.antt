use Rattle.std.proofs.Common.{◌-◌, length, drop, arith, length-drop}
use Rattle.std.proofs.lemmas.List.{length-take}
use Rattle.lines.proofs.Blocks.{used_by_lines}
use Rattle.sessions.proofs.serve.answer_lines.Goals as goal

pub lines-smaller : goal.lines-smaller
lines-smaller g c =
    let rest = c.lines.rest.now in
    let used = c.answer_block-progress.result.used in
    let answered = c.answer_block-progress.ensures.answered in
    omega (
      arith,
      used_by_lines _ _ _ _ _ _ _ _ answered,
      answered.inside,
      c.if-progress-lt-AT_A_TIME.false,
      length-take (length rest - used) (drop used rest),
      length-drop used rest,
    )
