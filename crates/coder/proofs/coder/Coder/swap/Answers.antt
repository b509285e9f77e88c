use Rattle.std.proofs.Common.{Err, refl, ap, ◌∙◌}
use Rattle.std.proofs.lemmas.Result.{err_from_is_err_and}
use Rattle.faults.specs.declared.fault.Cause.TheVariants.{Lane}
use Rattle.faults.specs.Faults.{own}
use Rattle.formats.specs.Shapes.{form}
use Rattle.ciphers.specs.Ways.{map_of}
use Rattle.coder.specs.Machine.{if_held}
use Rattle.coder.specs.Records.{named, running}
use Rattle.coder.specs.Steps.{lane_at, asked_text}
use Rattle.coder.proofs.Asked.{none_running, on_it, off_it, not_made, not_text, asked_answer, asked_text_lem}
use Rattle.coder.proofs.Followed.{turned, refused_turn}
use Rattle.coder.proofs.coder.Coder.swap.Goals as goal

pub returns-in_err-new : goal.returns-in_err-new
returns-in_err-new g c =
    let m = g.T.FormatCipher.meaning c.args.self.now.cipher in
    let k = c.args.lane in
    let t = c.args.text.now in
    let p = err_from_is_err_and c.from_residual.result c.from_residual.ensures.1 in
    refused_turn g.T.FormatCipher.meaning c.args.self.now c.args.way k t c.from_residual.result (own Lane) (p.1 ∙ ap Err (p.2 ∙ c.in_err-new.ensures.1))
    (off_it k (if_held (lane_at c.args.self.now.lanes k) (asked_text m (map_of m c.args.way) t)) c.in_err-new.ensures.0)

pub returns-in_err-record : goal.returns-in_err-record
returns-in_err-record g c =
    let m = g.T.FormatCipher.meaning c.args.self.now.cipher in
    let k = c.args.lane in
    let t = c.args.text.now in
    let lanes = c.args.self.now.lanes in
    let asked = asked_text m (map_of m c.args.way) t in
    let fault = c.in_err-record.field-0.0 in
    let p = err_from_is_err_and c.from_residual-in_err-record.result c.from_residual-in_err-record.ensures.1 in
    refused_turn g.T.FormatCipher.meaning c.args.self.now c.args.way k t c.from_residual-in_err-record.result fault (p.1 ∙ ap Err p.2)
    (on_it k (if_held (lane_at lanes k) asked) c.in_ok-new.ensures.0
    ∙ none_running (lane_at lanes k) fault asked (c.in_err-record.ensures ∙ ap (λ j. running (lane_at lanes j)) c.in_ok-new.ensures.1))

pub returns-in_err-shape : goal.returns-in_err-shape
returns-in_err-shape g c =
    let m = g.T.FormatCipher.meaning c.args.self.now.cipher in
    let k = c.args.lane in
    let t = c.args.text.now in
    let lanes = c.args.self.now.lanes in
    let fault = c.in_err-shape.field-0.0 in
    let p = err_from_is_err_and c.from_residual-in_err-shape.result c.from_residual-in_err-shape.ensures.1 in
    refused_turn g.T.FormatCipher.meaning c.args.self.now c.args.way k t c.from_residual-in_err-shape.result fault (p.1 ∙ ap Err p.2)
    (not_made m (map_of m c.args.way) k (lane_at lanes k) t (named c.in_ok-record.record) c.in_ok-new.ensures.0
    (c.in_ok-record.ensures ∙ ap (λ j. running (lane_at lanes j)) c.in_ok-new.ensures.1) fault c.in_err-shape.ensures)

pub returns-in_err-check_text : goal.returns-in_err-check_text
returns-in_err-check_text g c =
    let m = g.T.FormatCipher.meaning c.args.self.now.cipher in
    let k = c.args.lane in
    let t = c.args.text.now in
    let lanes = c.args.self.now.lanes in
    let fault = c.in_err-check_text.field-0.0 in
    let p = err_from_is_err_and c.from_residual-in_err-check_text.result c.from_residual-in_err-check_text.ensures.1 in
    refused_turn g.T.FormatCipher.meaning c.args.self.now c.args.way k t c.from_residual-in_err-check_text.result fault (p.1 ∙ ap Err p.2)
    (not_text m (map_of m c.args.way) k (lane_at lanes k) t (named c.in_ok-record.record) c.in_ok-new.ensures.0
    (c.in_ok-record.ensures ∙ ap (λ j. running (lane_at lanes j)) c.in_ok-new.ensures.1)
    (form c.in_ok-shape.shape) c.in_ok-shape.ensures fault c.in_err-check_text.ensures)

pub returns : goal.returns
returns g c =
    let m = g.T.FormatCipher.meaning c.args.self.now.cipher in
    let k = c.args.lane in
    let t = c.args.text.now in
    let lanes = c.args.self.now.lanes in
    let o = lane_at lanes k in
    let on = c.in_ok-new.ensures.0 in
    let runs = c.in_ok-record.ensures ∙ ap (λ j. running (lane_at lanes j)) c.in_ok-new.ensures.1 in
    let told =
    asked_answer m (map_of m c.args.way) k o t (named c.in_ok-record.record) on runs (form c.in_ok-shape.shape) c.in_ok-shape.ensures c.in_ok-check_text.ensures in
    let kept =
    asked_text_lem m (map_of m c.args.way) k o t (named c.in_ok-record.record) on runs (form c.in_ok-shape.shape) c.in_ok-shape.ensures c.in_ok-check_text.ensures in
    let letters = c.alphabet-alphabet.ensures in
    let symbols = c.to_symbols.ensures.after in
    let run = c.run.ensures in
    let below = c.swap-below.ensures.value in
    let after = c.swap-below.ensures.after in
    let back = c.to_text.ensures.after in
    let up = c.pass_up.ensures in
    turned g.T.FormatCipher.meaning c.args.self.now _ c.args.way k t c.pass_up.result c.to_text.new.code
    (cc) (cc) refl c.swap-below.ensures.same
