use Rattle.std.proofs.Common.{◌-◌, length, set, None, Err, refl, ap, ◌∙◌, length-set}
use Rattle.std.specs.List.{list_all}
use Rattle.std.proofs.lemmas.Result.{err_from_is_err_and}
use Rattle.faults.specs.declared.fault.Cause.TheVariants.{Lane}
use Rattle.faults.specs.Faults.{own}
use Rattle.coder.specs.Calls.{ends, done}
use Rattle.coder.specs.Machine.{if_held}
use Rattle.coder.specs.Records.{named, running, short_run}
use Rattle.coder.specs.Steps.{lane_at}
use Rattle.coder.proofs.Asked.{held_running, none_running, on_it, off_it}
use Rattle.coder.proofs.Followed.{refused_call, done_call}
use Rattle.coder.proofs.Records.{short_set}
use Rattle.coder.proofs.coder.Coder.end.Goals as goal

pub invariant_of-self : goal.invariant_of-self
invariant_of-self g c =
    let now = c.args.self.now in
    let place = c.in_ok-lane.lane.number - 1 in
    record {
      eight = ap length c.set.ensures ∙ length-set now.lanes place None ∙ now.eight;
      short = ap (list_all short_run) c.set.ensures ∙ short_set now.lanes place None now.short refl;
    }

pub returns-in_err-lane : goal.returns-in_err-lane
returns-in_err-lane g c =
    let k = c.args.lane in
    let p = err_from_is_err_and c.from_residual.result c.from_residual.ensures.1 in
    refused_call g.T.FormatCipher.meaning c.args.self.now (ends k) c.from_residual.result (own Lane) tt (p.1 ∙ ap Err (p.2 ∙ c.in_err-lane.ensures.1))
    (off_it k (if_held (lane_at c.args.self.now.lanes k) (λ _. done)) c.in_err-lane.ensures.0)

pub returns-in_err-running : goal.returns-in_err-running
returns-in_err-running g c =
    let k = c.args.lane in
    let lanes = c.args.self.now.lanes in
    let fault = c.in_err-running.field-0.0 in
    let p = err_from_is_err_and c.from_residual-in_err-running.result c.from_residual-in_err-running.ensures.1 in
    refused_call g.T.FormatCipher.meaning c.args.self.now (ends k) c.from_residual-in_err-running.result fault tt (p.1 ∙ ap Err p.2)
    (on_it k (if_held (lane_at lanes k) (λ _. done)) c.in_ok-lane.ensures.0
    ∙ none_running (lane_at lanes k) fault (λ _. done) (c.in_err-running.ensures ∙ ap (λ j. running (lane_at lanes j)) c.in_ok-lane.ensures.1))

pub returns : goal.returns
returns g c =
    let k = c.args.lane in
    let lanes = c.args.self.now.lanes in
    done_call g.T.FormatCipher.meaning c.args.self.now _ (ends k) tt
    (on_it k (if_held (lane_at lanes k) (λ _. done)) c.in_ok-lane.ensures.0
    ∙ held_running (lane_at lanes k) (named c.in_ok-running.field-0) (λ _. done) (c.in_ok-running.ensures ∙ ap (λ j. running (lane_at lanes j)) c.in_ok-lane.ensures.1))
    (c.set.ensures ∙ ap (λ j. set lanes (j - 1) None) c.in_ok-lane.ensures.1) refl
