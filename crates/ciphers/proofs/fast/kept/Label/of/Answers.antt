use Rattle.std.proofs.Common.{◌+◌, ◌≤◌, ◌++◌, length, Ok, Err, Result, refl, ap, ◌∙◌, arith}
use Rattle.std.specs.Result.{IsOk, OnOk}
use Rattle.std.proofs.lemmas.Bool.{false≢true}
use Rattle.alphabets.proofs.RunNames.{tells}
use Rattle.ciphers.proofs.Keeping.{same_label}
use Rattle.ciphers.proofs.fast.kept.Label.of.Goals as goal

at_ok : {T E : Type 0} (r : Result T E) (P : Type 0) → IsOk r → OnOk r P → P
at_ok (Ok x) P e h = h
at_ok (Err d) P e h = absurd (false≢true e)

pub returns : goal.returns
returns c =
    let w = c.args.wanted.now in
    let short : length w.run.now ≤ 32 = ((tells w.run.now).only w.named).short in
    let room : length c.new-name.result.items + length w.run.now ≤ 32 = omega (arith, ap length c.new-name.ensures) in
    let name = at_ok c.try_extend_from_slice.result _ (c.try_extend_from_slice.ensures.variant.1 room) c.try_extend_from_slice.ensures.ok in
    same_label _ _ _ _ _ _ refl refl (name ∙ ap (λ l. l ++ w.run.now) c.new-name.ensures)
