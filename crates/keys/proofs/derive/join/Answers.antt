use Rattle.std.proofs.Common.{◌++◌, length, ap, ◌∙◌, arith}
use Rattle.keys.proofs.Pieces.{two_pieces}
use Rattle.keys.proofs.derive.join.Goals as goal

pub returns : goal.returns
returns c =
    let front = c.copy_from_slice.ensures.after in
    let back = c.copy_from_slice-2.ensures.after in
    two_pieces c.copy_from_slice.new.self c.copy_from_slice-2.new.self c.args.key.now (omega (arith, ap length front)) (omega arith)
    ∙ ap (λ l. l ++ c.copy_from_slice-2.new.self) front ∙ ap (λ l. c.args.first ++ l) back
