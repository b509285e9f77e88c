use Rattle.std.proofs.Common.{Err, ap, ◌∙◌}
use Rattle.std.proofs.lemmas.Result.{err_from_is_err_and}
use Rattle.formats.specs.Shapes.{form}
use Rattle.codebook.specs.Codebooks.{book}
use Rattle.ciphers.specs.Ways.{map_of}
use Rattle.piles.specs.Piles.{over_first_pile}
use Rattle.piles.proofs.Piled.{unkept_value, unkept_after, kept_value, kept_after, same_first}
use Rattle.piles.proofs.swap.over_first.Goals as goal

pub returns-in_err-keep : goal.returns-in_err-keep
returns-in_err-keep g c =
    let pile = over_first_pile c.args.kept (book c.args.walked) (g.R.Rule.allowed c.args.rule) (book c.args.other) in
    let f = form c.args.shape.now in
    let run = c.args.run.now in
    let code = c.args.code.now in
    let why = c.in_err-keep.ensures in
    let p = err_from_is_err_and c.from_residual.result c.from_residual.ensures.1 in
    record {
      value = p.1 ∙ ap Err (p.2 ∙ why.0) ∙ unkept_value c.args.kept pile (λ m. map_of m c.args.way) f run code why.1;
      after = unkept_after c.args.kept pile (λ m. map_of m c.args.way) f run code why.1;
    }

pub returns : goal.returns
returns g c =
    let pile = over_first_pile c.args.kept (book c.args.walked) (g.R.Rule.allowed c.args.rule) (book c.args.other) in
    let f = form c.args.shape.now in
    let run = c.args.run.now in
    let code = c.args.code.now in
    let keep = c.in_ok-keep.keep in
    let made = c.in_ok-keep.ensures in
    let walked = ap (λ t. t.left.below) made.1 ∙ ap (λ w. w.below) c.new-first.ensures.left ∙ c.new-walk.ensures.below in
    let other = ap (λ t. t.right) made.1 ∙ c.new-first.ensures.right in
    let rule = ap (λ t. t.left.rule) made.1 ∙ ap (λ w. w.rule) c.new-first.ensures.left ∙ c.new-walk.ensures.rule in
    let allowed = g.R.Rule.allowed in
    let here = over_first_pile keep.kept (book keep.below.left.below) (allowed keep.below.left.rule) (book keep.below.right) in
    let same =
    same_first keep.kept c.args.kept keep.below.left.below c.args.walked (allowed keep.below.left.rule) (allowed c.args.rule) keep.below.right c.args.other
    made.0 walked (ap allowed rule) other in
    record {
      value = kept_value c.args.kept pile (λ m. map_of m c.args.way) f run code made.2 here same c.swap.result c.swap.ensures.value;
      after = kept_after c.args.kept pile (λ m. map_of m c.args.way) f run code made.2 here same c.swap.new.code c.swap.ensures.after;
    }
