use Rattle.std.proofs.Common.{◌∙◌}
use Rattle.text.specs.Readers.{words_left}
use Rattle.commands.specs.Words.{lane_in, filled_in}
use Rattle.commands.specs.Commands.{start}
use Rattle.commands.proofs.Readings.{goes_on, stops}
use Rattle.commands.proofs.Forms.{finally, last_word, more_words, after_lane, after_run, start_form_lem}
use Rattle.commands.proofs.command.start.Goals as goal

pub returns-in_err-lane : goal.returns-in_err-lane
returns-in_err-lane c =
    let ws = words_left c.args.words.now in
    rw c.from_residual.ensures (stops lane_in after_lane ws c.in_err-lane.ensures.value ∙ start_form_lem ws)

pub returns-in_err-run : goal.returns-in_err-run
returns-in_err-run c =
    let ws = words_left c.args.words.now in
    let k = c.in_ok-lane.lane in
    rw c.from_residual-in_err-run.ensures
    (stops filled_in (after_run k) (words_left c.next_lane.new.words) c.in_err-run.ensures.value
    ∙ goes_on lane_in after_lane ws (words_left c.next_lane.new.words) c.next_lane.ensures.after k c.in_ok-lane.ensures.value
    ∙ start_form_lem ws)

pub returns-in_err-shape : goal.returns-in_err-shape
returns-in_err-shape c =
    let ws = words_left c.args.words.now in
    let k = c.in_ok-lane.lane in
    let run = c.in_ok-run.run'.now in
    rw c.from_residual-in_err-shape.ensures
    (stops filled_in (λ shape. finally (start k run shape)) (words_left c.next_word.new.words) c.in_err-shape.ensures.value
    ∙ goes_on filled_in (after_run k) (words_left c.next_lane.new.words) (words_left c.next_word.new.words) c.next_word.ensures.after run c.in_ok-run.ensures.value
    ∙ goes_on lane_in after_lane ws (words_left c.next_lane.new.words) c.next_lane.ensures.after k c.in_ok-lane.ensures.value
    ∙ start_form_lem ws)

pub returns-in_err-end : goal.returns-in_err-end
returns-in_err-end c =
    let ws = words_left c.args.words.now in
    let k = c.in_ok-lane.lane in
    let run = c.in_ok-run.run'.now in
    rw c.from_residual-in_err-end.ensures
    (more_words (start k run c.in_ok-shape.shape.now) (words_left c.next_word-2.new.words) c.in_err-end.ensures
    ∙ goes_on filled_in (λ shape. finally (start k run shape)) (words_left c.next_word.new.words) (words_left c.next_word-2.new.words) c.next_word-2.ensures.after _ c.in_ok-shape.ensures.value
    ∙ goes_on filled_in (after_run k) (words_left c.next_lane.new.words) (words_left c.next_word.new.words) c.next_word.ensures.after run c.in_ok-run.ensures.value
    ∙ goes_on lane_in after_lane ws (words_left c.next_lane.new.words) c.next_lane.ensures.after k c.in_ok-lane.ensures.value
    ∙ start_form_lem ws)

pub returns : goal.returns
returns c =
    let ws = words_left c.args.words.now in
    let k = c.in_ok-lane.lane in
    let run = c.in_ok-run.run'.now in
    last_word (start k run c.in_ok-shape.shape.now) (words_left c.next_word-2.new.words) _ c.in_ok-end.ensures
    ∙ goes_on filled_in (λ shape. finally (start k run shape)) (words_left c.next_word.new.words) (words_left c.next_word-2.new.words) c.next_word-2.ensures.after _ c.in_ok-shape.ensures.value
    ∙ goes_on filled_in (after_run k) (words_left c.next_lane.new.words) (words_left c.next_word.new.words) c.next_word.ensures.after run c.in_ok-run.ensures.value
    ∙ goes_on lane_in after_lane ws (words_left c.next_lane.new.words) c.next_lane.ensures.after k c.in_ok-lane.ensures.value
    ∙ start_form_lem ws
