use Rattle.std.proofs.Common.{sym, refl, ap, ◌∙◌}
use Rattle.std.proofs.lemmas.Result.{err_from_is_err_and}
use Rattle.formats.specs.Shapes.{form}
use Rattle.ciphers.specs.Swaps.{answer, left}
use Rattle.ciphers.specs.Ways.{map_of}
use Rattle.layers.specs.Firsts.{preferring}
use Rattle.layers.specs.Handed.{stopped}
use Rattle.layers.specs.FirstsLemmas.{by_sides, left_refused, left_value, left_after, right_refused, right_value, right_after}
use Rattle.layers.proofs.first_of.FirstOf.swap.Goals as goal

pub returns-in_err-check : goal.returns-in_err-check
returns-in_err-check g c =
    let l = g.L.FormatCipher.meaning c.args.self.now.left in
    let r = g.R.FormatCipher.meaning c.args.self.now.right in
    let p = err_from_is_err_and c.from_residual.result c.from_residual.ensures.1 in
    let is = stopped p.1 p.2 (by_sides l r c.args.way (form c.args.shape.now) c.args.run.now c.args.code.now ∙ left_refused l r (map_of l c.args.way) (map_of r c.args.way) (form c.args.shape.now) c.args.run.now c.args.code.now c.if-takes.ensures c.in_err-check.ensures) in
    record { value = is.0; after = is.1; same = refl {a = preferring l r} }

pub returns-then-takes : goal.returns-then-takes
returns-then-takes g c =
    let l = g.L.FormatCipher.meaning c.args.self.now.left in
    let r = g.R.FormatCipher.meaning c.args.self.now.right in
    let f = form c.args.shape.now in
    let run = c.args.run.now in
    let code = c.args.code.now in
    let takes = c.if-takes.ensures in
    let ok = c.in_ok-check.ensures in
    let sides = by_sides l r c.args.way f run code in
    record {
      value = c.pass_up.ensures ∙ left_value l r (map_of l c.args.way) (map_of r c.args.way) f run code takes ok c.swap.ensures.value ∙ sym (ap answer sides);
      after = left_after l r (map_of l c.args.way) (map_of r c.args.way) f run code takes ok c.swap.ensures.after ∙ sym (ap (λ o. left o code) sides);
      same = ap (λ m. preferring m r) c.swap.ensures.same;
    }

pub returns-in_err-check-2 : goal.returns-in_err-check-2
returns-in_err-check-2 g c =
    let l = g.L.FormatCipher.meaning c.args.self.now.left in
    let r = g.R.FormatCipher.meaning c.args.self.now.right in
    let p = err_from_is_err_and c.from_residual-in_err-check-2.result c.from_residual-in_err-check-2.ensures.1 in
    let is = stopped p.1 p.2 (by_sides l r c.args.way (form c.args.shape.now) c.args.run.now c.args.code.now ∙ right_refused l r (map_of l c.args.way) (map_of r c.args.way) (form c.args.shape.now) c.args.run.now c.args.code.now c.if-takes.ensures c.takes-2.ensures c.in_err-check-2.ensures) in
    record { value = is.0; after = is.1; same = refl {a = preferring l r} }

pub returns : goal.returns
returns g c =
    let l = g.L.FormatCipher.meaning c.args.self.now.left in
    let r = g.R.FormatCipher.meaning c.args.self.now.right in
    let f = form c.args.shape.now in
    let out = c.if-takes.ensures in
    let run = c.args.run.now in
    let code = c.args.code.now in
    let takes = c.takes-2.ensures in
    let ok = c.in_ok-check-2.ensures in
    let sides = by_sides l r c.args.way f run code in
    record {
      value = c.pass_up-2.ensures ∙ right_value l r (map_of l c.args.way) (map_of r c.args.way) f run code out takes ok c.swap-2.ensures.value ∙ sym (ap answer sides);
      after = right_after l r (map_of l c.args.way) (map_of r c.args.way) f run code out takes ok c.swap-2.ensures.after ∙ sym (ap (λ o. left o code) sides);
      same = ap (preferring l) c.swap-2.ensures.same;
    }
