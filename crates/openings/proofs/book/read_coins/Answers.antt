use Rattle.std.proofs.Common.{◌≡◌, ◌≤◌, length, IsOk, Ok, ap, ◌∙◌, arith, rules}
use Rattle.std.specs.Option.{ok_or}
use Rattle.std.proofs.lemmas.Result.{err_from_is_err_and}
use Rattle.faults.specs.declared.fault.Cause.TheVariants.{Line}
use Rattle.faults.specs.Faults.{own}
use Rattle.openings.proofs.Digits.{put, many, refused, spelled}
use Rattle.openings.proofs.book.read_coins.Goals as goal

pub returns-in_err-map_err : goal.returns-in_err-map_err
returns-in_err-map_err c =
    let line : c.in_err-map_err.field-0.0 ≡ own Line = search rules in
    let p = err_from_is_err_and c.from_residual.result c.from_residual.ensures.1 in
    let over : length c.args.digits.now ≤ 4096 → ⊥ = λ few.
    let ok : IsOk c.try_extend_from_slice.result = c.try_extend_from_slice.ensures.variant.1 (omega (arith, ap length c.new-text.ensures)) in
    absurd (grind arith) in
    rw (p.1, p.2, line) (many c.args.digits.now over)

pub returns-in_err-count : goal.returns-in_err-count
returns-in_err-count c =
    let read = c.try_extend_from_slice in
    let ok : IsOk read.result = grind arith in
    let text = c.as_mut_slice.result.now in
    let fits = put read.result c.new-text.result.items read.new.self.items text c.args.digits.now ok c.new-text.ensures read.ensures.variant read.ensures.ok c.as_mut_slice.ensures.value in
    let p = err_from_is_err_and c.from_residual-in_err-count.result c.from_residual-in_err-count.ensures.1 in
    rw (p.1, p.2) (refused c.args.digits.now text c.decode.result fits c.decode.ensures.value _ (c.in_err-count.ensures.value ∙ ap (ok_or c.decode.result) c.own.ensures))

pub returns : goal.returns
returns c =
    let read = c.try_extend_from_slice in
    let ok : IsOk read.result = grind arith in
    let text = c.as_mut_slice.result.now in
    let fits = put read.result c.new-text.result.items read.new.self.items text c.args.digits.now ok c.new-text.ensures read.ensures.variant read.ensures.ok c.as_mut_slice.ensures.value in
    let holds = rw (← c.as_mut_slice.ensures.value) at c.truncate.ensures.items in
    ap Ok holds ∙ spelled c.args.digits.now text c.decode.result fits c.decode.ensures.value c.in_ok-count.count c.decode.new.text c.in_ok-count.ensures.ok_part c.decode.ensures.after c.decode.auto.text
