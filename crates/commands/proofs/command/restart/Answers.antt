use Rattle.std.proofs.Common.{◌∙◌}
use Rattle.text.specs.Readers.{words_left}
use Rattle.commands.specs.Commands.{restart}
use Rattle.commands.proofs.Forms.{last_word, more_words, restart_form}
use Rattle.commands.proofs.command.restart.Goals as goal

pub returns-in_err-end : goal.returns-in_err-end
returns-in_err-end c =
    let ws = words_left c.args.words.now in
    rw c.from_residual.ensures (more_words restart ws c.in_err-end.ensures ∙ restart_form ws)

pub returns : goal.returns
returns c =
    let ws = words_left c.args.words.now in
    last_word restart ws _ c.in_ok-end.ensures ∙ restart_form ws
