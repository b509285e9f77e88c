use Rattle.std.proofs.Common.{◌+◌, drop, Err, ap, ◌∙◌}
use Rattle.std.proofs.lemmas.Result.{err_from_is_err_and}
use Rattle.formats.specs.Shapes.{form}
use Rattle.ciphers.specs.Swaps.{answer, left}
use Rattle.network_c.specs.Under.{toward, under}
use Rattle.network_c.proofs.Runs.{under_more, under_stop, under_none, same_swap}
use Rattle.network_c.proofs.under.swap_under.Goals as goal

pub loop-run-preserved : goal.loop-run-preserved
loop-run-preserved g c =
    let f = form c.args.shape.now in
    let swaps = toward c.args.way (g.T.FormatCipher.meaning c.args.cipher.now) f in
    let runs = c.args.runs.now in
    let k = c.loop-run.run-index in
    let code = c.loop-run.code in
    let same = same_swap (toward c.args.way) _ _ f _ code c.loop-run.invariant.same in record {
      same = c.swap.ensures.same ∙ c.loop-run.invariant.same;
      rest =
          ap (under swaps (drop (k + 1) runs)) (c.swap.ensures.after ∙ ap (λ o. left o code) same)
          ∙ (under_more swaps runs k code c.loop-run-test.true (c.in_ok-swap.ensures.value ∙ ap answer same) ∙ c.loop-run.invariant.rest);
    }

pub returns-in_err-swap : goal.returns-in_err-swap
returns-in_err-swap g c =
    let f = form c.args.shape.now in
    let swaps = toward c.args.way (g.T.FormatCipher.meaning c.args.cipher.now) f in
    let code = c.loop-run.code in
    let same = same_swap (toward c.args.way) _ _ f _ code c.loop-run.invariant.same in
    let is = under_stop swaps c.args.runs.now c.loop-run.run-index code c.loop-run-test.true c.in_err-swap.field-0.0 (c.in_err-swap.ensures.value ∙ ap answer same) ∙ c.loop-run.invariant.rest in
    let p = err_from_is_err_and c.from_residual.result c.from_residual.ensures.1 in
    record {
      value = p.1 ∙ (ap Err p.2 ∙ ap (λ e. e.answer) is);
      after = c.swap.ensures.after ∙ (ap (λ o. left o code) same ∙ ap (λ e. e.code) is);
    }

pub returns : goal.returns
returns g c =
    let swaps = toward c.args.way (g.T.FormatCipher.meaning c.args.cipher.now) (form c.args.shape.now) in
    let is = under_none swaps c.args.runs.now c.loop-run.run-index c.loop-run.code c.loop-run-test.false ∙ c.loop-run.invariant.rest in
    record { value = ap (λ e. e.answer) is; after = ap (λ e. e.code) is }
