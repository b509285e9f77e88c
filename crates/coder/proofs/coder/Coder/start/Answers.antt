use Rattle.std.proofs.Common.{◌-◌, length, set, Some, Err, cond, sym, refl, ap, ◌∙◌, length-set}
use Rattle.std.specs.List.{list_all}
use Rattle.std.proofs.lemmas.Bool.{cond-true, cond-false}
use Rattle.std.proofs.lemmas.Result.{err_from_is_err_and}
use Rattle.faults.specs.declared.fault.Cause.TheVariants.{Lane, RunName, LaneHasRun, ShapeNotTaken}
use Rattle.faults.specs.Faults.{own}
use Rattle.formats.specs.Shapes.{form}
use Rattle.alphabets.specs.RunNames.{legal}
use Rattle.ciphers.specs.Swaps.{refused}
use Rattle.coder.specs.Calls.{starts, done}
use Rattle.coder.specs.Machine.{held_of, if_free}
use Rattle.coder.specs.Records.{named, short_run}
use Rattle.coder.specs.Steps.{lane_at}
use Rattle.coder.proofs.Asked.{on_it, off_it, taken_lane, free_lane}
use Rattle.coder.proofs.Followed.{refused_call, done_call}
use Rattle.coder.proofs.Handed.{remakes}
use Rattle.coder.proofs.Records.{short_named, short_set}
use Rattle.coder.proofs.coder.Coder.start.Goals as goal

pub invariant_of-self : goal.invariant_of-self
invariant_of-self g c =
    let now = c.args.self.now in
    let place = c.in_ok-lane.lane.number - 1 in
    let made = c.new-3.result in
    record {
      eight = ap length c.set.ensures ∙ length-set now.lanes place (Some (named made)) ∙ now.eight;
      short = ap (list_all short_run) c.set.ensures ∙ short_set now.lanes place (Some (named made)) now.short (short_named made);
    }

pub returns-in_err-lane : goal.returns-in_err-lane
returns-in_err-lane g c =
    let m = g.T.FormatCipher.meaning c.args.self.now.cipher in
    let run = c.args.run.now in
    let f = form c.args.shape.now in
    let p = err_from_is_err_and c.from_residual.result c.from_residual.ensures.1 in
    refused_call g.T.FormatCipher.meaning c.args.self.now (starts c.args.lane run f) c.from_residual.result (own Lane) (remakes c.args.shape.now)
    (p.1 ∙ ap Err (p.2 ∙ c.in_err-lane.ensures.1))
    (off_it c.args.lane (cond (legal run) (if_free (lane_at c.args.self.now.lanes c.args.lane) (cond (m.taken f) done (refused (own ShapeNotTaken)))) (refused (own RunName))) c.in_err-lane.ensures.0)

pub returns-in_err-name : goal.returns-in_err-name
returns-in_err-name g c =
    let m = g.T.FormatCipher.meaning c.args.self.now.cipher in
    let k = c.args.lane in
    let run = c.args.run.now in
    let f = form c.args.shape.now in
    let p = err_from_is_err_and c.from_residual-in_err-name.result c.from_residual-in_err-name.ensures.1 in
    let if_named = if_free (lane_at c.args.self.now.lanes k) (cond (m.taken f) done (refused (own ShapeNotTaken))) in
    refused_call g.T.FormatCipher.meaning c.args.self.now (starts k run f) c.from_residual-in_err-name.result (own RunName) (remakes c.args.shape.now) (p.1 ∙ ap Err (p.2 ∙ c.in_err-name.ensures.0))
    (on_it k (cond (legal run) if_named (refused (own RunName))) c.in_ok-lane.ensures.0 ∙ cond-false (legal run) if_named (refused (own RunName)) c.in_err-name.ensures.1)

pub returns-then-is_some : goal.returns-then-is_some
returns-then-is_some g c =
    let m = g.T.FormatCipher.meaning c.args.self.now.cipher in
    let k = c.args.lane in
    let lanes = c.args.self.now.lanes in
    let run = c.args.run.now in
    let f = form c.args.shape.now in
    let at_last = cond (m.taken f) done (refused (own ShapeNotTaken)) in
    let if_named = if_free (lane_at lanes k) at_last in
    refused_call g.T.FormatCipher.meaning c.args.self.now (starts k run f) (Err c.own.result) (own LaneHasRun) (remakes c.args.shape.now) (ap Err c.own.ensures)
    (on_it k (cond (legal run) if_named (refused (own RunName))) c.in_ok-lane.ensures.0
    ∙ cond-true (legal run) if_named (refused (own RunName)) c.in_ok-name.ensures.1
    ∙ taken_lane c.at.result (lane_at lanes k) at_last (c.at.ensures ∙ ap (lane_at lanes) c.in_ok-lane.ensures.1) (sym c.if-is_some.ensures))

pub returns-then-not-takes : goal.returns-then-not-takes
returns-then-not-takes g c =
    let m = g.T.FormatCipher.meaning c.args.self.now.cipher in
    let k = c.args.lane in
    let lanes = c.args.self.now.lanes in
    let run = c.args.run.now in
    let f = form c.args.shape.now in
    let at_last = cond (m.taken f) done (refused (own ShapeNotTaken)) in
    let if_named = if_free (lane_at lanes k) at_last in
    refused_call g.T.FormatCipher.meaning c.args.self.now (starts k run f) (Err c.own-then-not-takes.result) (own ShapeNotTaken) (remakes c.args.shape.now) (ap Err c.own-then-not-takes.ensures)
    (on_it k (cond (legal run) if_named (refused (own RunName))) c.in_ok-lane.ensures.0
    ∙ cond-true (legal run) if_named (refused (own RunName)) c.in_ok-name.ensures.1
    ∙ free_lane c.at.result (lane_at lanes k) at_last (c.at.ensures ∙ ap (lane_at lanes) c.in_ok-lane.ensures.1) (sym c.if-is_some.ensures)
    ∙ cond-false (m.taken f) done (refused (own ShapeNotTaken)) (sym c.if-not-takes.ensures))

pub returns : goal.returns
returns g c =
    let m = g.T.FormatCipher.meaning c.args.self.now.cipher in
    let k = c.args.lane in
    let lanes = c.args.self.now.lanes in
    let run = c.args.run.now in
    let f = form c.args.shape.now in
    let at_last = cond (m.taken f) done (refused (own ShapeNotTaken)) in
    let if_named = if_free (lane_at lanes k) at_last in
    done_call g.T.FormatCipher.meaning c.args.self.now _ (starts k run f) (remakes c.args.shape.now)
    (on_it k (cond (legal run) if_named (refused (own RunName))) c.in_ok-lane.ensures.0
    ∙ cond-true (legal run) if_named (refused (own RunName)) c.in_ok-name.ensures.1
    ∙ free_lane c.at.result (lane_at lanes k) at_last (c.at.ensures ∙ ap (lane_at lanes) c.in_ok-lane.ensures.1) (sym c.if-is_some.ensures)
    ∙ cond-true (m.taken f) done (refused (own ShapeNotTaken)) (sym c.if-not-takes.ensures))
    (c.set.ensures
    ∙ ap (λ j. set lanes (j - 1) (Some (named c.new-3.result))) c.in_ok-lane.ensures.1
    ∙ ap (λ u. set lanes (k - 1) (Some u)) (c.new-3.ensures ∙ ap (λ r. held_of r f) c.in_ok-name.ensures.0)) refl
