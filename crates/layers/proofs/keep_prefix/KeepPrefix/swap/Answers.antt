use Rattle.std.proofs.Common.{ℕ, ◌-◌, List, length, take, drop, sym, refl, ap, ◌∙◌}
use borrow.Rule.Slice.PartMut.{put_mid}
use Rattle.std.proofs.lemmas.Result.{err_from_is_err_and}
use Rattle.formats.specs.Shapes.{form}
use Rattle.ciphers.specs.Swaps.{Outcome, swap, answer, left}
use Rattle.ciphers.specs.Ways.{map_of}
use Rattle.layers.specs.Keeps.{keeping}
use Rattle.layers.specs.Handed.{shut_value, shut_after, stopped}
use Rattle.layers.specs.KeepsLemmas.{kept_either, kept_refused, fits, kept_value, kept_after}
use Rattle.layers.proofs.keep_prefix.KeepPrefix.swap.Goals as goal

pub returns-in_default : goal.returns-in_default
returns-in_default g c =
    let m = keeping c.args.self.now.kept (g.T.FormatCipher.meaning c.args.self.now.below) in
    let f = form c.args.shape.now in
    let out = c.in_default.ensures.takes in
    record {
      value = shut_value m (map_of m c.args.way) f c.args.run.now c.args.code.now out c.check.ensures;
      after = shut_after m (map_of m c.args.way) f c.args.run.now c.args.code.now out;
      same = refl {a = m};
    }

pub returns-in_err-check : goal.returns-in_err-check
returns-in_err-check g c =
    let k = c.args.self.now.kept in
    let m = g.T.FormatCipher.meaning c.args.self.now.below in
    let p = err_from_is_err_and c.from_residual.result c.from_residual.ensures.1 in
    let is = stopped p.1 p.2 (kept_either k m c.args.way (form c.args.shape.now) c.args.run.now c.args.code.now ∙ kept_refused k m (map_of m c.args.way) (form c.args.shape.now) c.args.run.now c.args.code.now c.in-Some.ensures.takes c.in_err-check.ensures) in
    record { value = is.0; after = is.1; same = refl {a = keeping k m} }

pub slice_bounds-part-count : goal.slice_bounds-part-count
slice_bounds-part-count g c =
    let m = g.T.FormatCipher.meaning c.args.self.now.below in
    rw c.from.ensures (fits c.args.self.now.kept m (form c.args.shape.now) c.args.run.now c.args.code.now c.in-Some.ensures.takes c.in_ok-check.ensures)

pub slice_bounds-part-start : goal.slice_bounds-part-start
slice_bounds-part-start g c =
    let m = g.T.FormatCipher.meaning c.args.self.now.below in
    rw c.from.ensures (fits c.args.self.now.kept m (form c.args.shape.now) c.args.run.now c.args.code.now c.in-Some.ensures.takes c.in_ok-check.ensures)

pub returns : goal.returns
returns g c =
    let p = c.args.self.now.kept in
    let m = g.T.FormatCipher.meaning c.args.self.now.below in
    let f = form c.args.shape.now in
    let run = c.args.run.now in
    let code = c.args.code.now in
    let takes = c.in-Some.ensures.takes in
    let rest = c.in-Some.ensures.rest in
    let ok = c.in_ok-check.ensures in
    let whole = kept_either p m c.args.way f run code in
    let slice : ℕ → List ℕ = λ start. take (length code - start) (drop start code) in
    let turned : ℕ → Outcome = λ start. swap m (map_of m c.args.way) (form c.in-Some.rest) run (slice start) in
    record {
      value =
          c.pass_up.ensures
          ∙ kept_value p m (map_of m c.args.way) f run code takes ok (form c.in-Some.rest) rest (c.swap.ensures.value ∙ ap (λ start. answer (turned start)) c.from.ensures)
          ∙ sym (ap answer whole);
      after =
          ap (λ start. put_mid start (length code - start) code c.swap.new.code) c.from.ensures
          ∙ kept_after p m (map_of m c.args.way) f run code takes ok (form c.in-Some.rest) rest (c.swap.ensures.after ∙ ap (λ start. left (turned start) (slice start)) c.from.ensures)
          ∙ sym (ap (λ o. left o code) whole);
      same = ap (keeping p) c.swap.ensures.same;
    }
