use Rattle.std.proofs.Common.{◌∙◌}
use Rattle.text.specs.Readers.{words_left}
use Rattle.commands.specs.Words.{lane_in}
use Rattle.commands.specs.Commands.{end}
use Rattle.commands.proofs.Readings.{goes_on, stops}
use Rattle.commands.proofs.Forms.{finally, last_word, more_words, end_form_lem}
use Rattle.commands.proofs.command.finish.Goals as goal

pub returns-in_err-lane : goal.returns-in_err-lane
returns-in_err-lane c =
    let ws = words_left c.args.words.now in
    rw c.from_residual.ensures (stops lane_in (λ k. finally (end k)) ws c.in_err-lane.ensures.value ∙ end_form_lem ws)

pub returns-in_err-end : goal.returns-in_err-end
returns-in_err-end c =
    let ws = words_left c.args.words.now in
    let k = c.in_ok-lane.lane in
    rw c.from_residual-in_err-end.ensures
    (more_words (end k) (words_left c.next_lane.new.words) c.in_err-end.ensures
    ∙ goes_on lane_in (λ j. finally (end j)) ws (words_left c.next_lane.new.words) c.next_lane.ensures.after k c.in_ok-lane.ensures.value
    ∙ end_form_lem ws)

pub returns : goal.returns
returns c =
    let ws = words_left c.args.words.now in
    let k = c.in_ok-lane.lane in
    last_word (end k) (words_left c.next_lane.new.words) _ c.in_ok-end.ensures
    ∙ goes_on lane_in (λ j. finally (end j)) ws (words_left c.next_lane.new.words) c.next_lane.ensures.after k c.in_ok-lane.ensures.value
    ∙ end_form_lem ws
