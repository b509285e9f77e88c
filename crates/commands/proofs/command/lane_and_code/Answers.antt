use Rattle.std.proofs.Common.{Some, None, refl, ◌∙◌}
use Rattle.text.specs.Readers.{words_left, rest_of}
use Rattle.commands.specs.Words.{lane_in, filled_in, ended}
use Rattle.commands.proofs.Readings.{goes_on, stops}
use Rattle.commands.proofs.Forms.{after_code, before_code, both_ways}
use Rattle.commands.proofs.command.lane_and_code.Goals as goal

pub returns-in_err-lane : goal.returns-in_err-lane
returns-in_err-lane c =
    let ws = words_left c.args.words.now in
    let b = both_ways None ws (stops lane_in before_code ws c.in_err-lane.ensures.value) in
    rw c.from_residual.ensures (record { masked = b.0; unmasked = b.1 })

pub returns-in_err-code : goal.returns-in_err-code
returns-in_err-code c =
    let ws = words_left c.args.words.now in
    let vs = words_left c.next_lane.new.words in
    let k = c.in_ok-lane.lane in
    let b = both_ways None ws
    (stops filled_in (after_code k) vs c.in_err-code.ensures.value
    ∙ goes_on lane_in before_code ws vs c.next_lane.ensures.after k c.in_ok-lane.ensures.value) in
    rw c.from_residual-in_err-code.ensures (record { masked = b.0; unmasked = b.1 })

pub returns-in_err-end : goal.returns-in_err-end
returns-in_err-end c =
    let ws = words_left c.args.words.now in
    let vs = words_left c.next_lane.new.words in
    let us = words_left c.next_word.new.words in
    let k = c.in_ok-lane.lane in
    let code = c.in_ok-code.code.now in
    let b = both_ways None ws
    (stops ended (λ _ _. Some (k, code)) us c.in_err-end.ensures
    ∙ goes_on filled_in (after_code k) vs us c.next_word.ensures.after code c.in_ok-code.ensures.value
    ∙ goes_on lane_in before_code ws vs c.next_lane.ensures.after k c.in_ok-lane.ensures.value) in
    rw c.from_residual-in_err-end.ensures (record { masked = b.0; unmasked = b.1 })

pub returns : goal.returns
returns c =
    let ws = words_left c.args.words.now in
    let vs = words_left c.next_lane.new.words in
    let us = words_left c.next_word.new.words in
    let k = c.in_ok-lane.lane in
    let code = c.in_ok-code.code.now in
    let b = both_ways (Some (k, code)) ws
    (goes_on ended (λ _ _. Some (k, code)) us (rest_of us) refl _ c.in_ok-end.ensures
    ∙ goes_on filled_in (after_code k) vs us c.next_word.ensures.after code c.in_ok-code.ensures.value
    ∙ goes_on lane_in before_code ws vs c.next_lane.ensures.after k c.in_ok-lane.ensures.value) in
    record { masked = b.0; unmasked = b.1 }
