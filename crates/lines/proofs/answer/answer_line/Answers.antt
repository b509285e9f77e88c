use Rattle.std.proofs.Common.{Option, subst}
use Rattle.commands.specs.Commands.{Spelled}
use Rattle.lines.specs.Answers.{Answered}
use Rattle.lines.proofs.answer.answer_line.Goals as goal

pub returns-in-Some : goal.returns-in-Some
returns-in-Some g c =
    let P : Option Spelled → Type 0 = λ w. Answered g.T.FormatCipher.meaning c.args.coder.now c.answer_command.new.coder w c.answer_command.result in
    subst P c.in-Some.ensures c.answer_command.ensures
