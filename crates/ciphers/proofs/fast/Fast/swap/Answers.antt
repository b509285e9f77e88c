use Rattle.std.proofs.Common.{sym, refl, ap, ◌∙◌}
use Rattle.std.proofs.lemmas.Result.{err_from_is_err_and}
use Rattle.formats.specs.Shapes.{form}
use Rattle.ciphers.specs.Ways.{map_of}
use Rattle.ciphers.specs.Held.{network_of}
use Rattle.ciphers.specs.Networks.{networked}
use Rattle.ciphers.specs.Swaps.{answer, left}
use Rattle.ciphers.proofs.Checked.{passed, swap_refused, swap_passed}
use Rattle.ciphers.proofs.fast.Fast.swap.Goals as goal

pub returns-in_err-check : goal.returns-in_err-check
returns-in_err-check c =
    let m = networked (network_of c.args.self.now) in
    let code = c.args.code.now in
    let p = err_from_is_err_and c.from_residual.result c.from_residual.ensures.1 in
    let is = swap_refused m (map_of m c.args.way) (form c.args.shape.now) c.args.run.now code c.takes.result c.takes.ensures c.in_err-check.field-0.0 (sym c.in_err-check.was ∙ c.check.ensures) in
    record { value = rw (p.1, p.2) (sym (ap answer is)); after = sym (ap (λ o. left o code) is); same = refl }

pub swap_checked-requires : goal.swap_checked-requires
swap_checked-requires c =
    let p = passed c.takes.result (form c.args.shape.now) c.args.run.now c.args.code.now (sym c.in_ok-check.was ∙ c.check.ensures) in
    record { taken = sym c.takes.ensures ∙ p.takes; run = p.name; code = p.code }

pub returns : goal.returns
returns c =
    let m = networked (network_of c.args.self.now) in
    let code = c.args.code.now in
    let is = swap_passed m (map_of m c.args.way) (form c.args.shape.now) c.args.run.now code c.takes.result c.takes.ensures (sym c.in_ok-check.was ∙ c.check.ensures) refl in
    record { value = sym (ap answer is); after = c.swap_checked.ensures.after ∙ sym (ap (λ o. left o code) is); same = c.swap_checked.ensures.same }
