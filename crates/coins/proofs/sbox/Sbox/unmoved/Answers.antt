use Rattle.std.proofs.Common.{Some, sym, ap, ◌∙◌, arith}
use Rattle.std.proofs.lemmas.Bool.{cond-true, and_from, le-leb}
use Rattle.coins.proofs.Boxes.{counted_front}
use Rattle.coins.proofs.sbox.Sbox.unmoved.Goals as goal

pub returns-clause-value : goal.returns-clause-value
returns-clause-value c =
    let a = c.args.radix in
    ap Some (counted_front a c.loop-x.forward (omega arith) (λ k h. c.loop-x.invariant.1 k (omega arith))) ∙
    sym (cond-true _ _ _ (and_from _ _ (le-leb 2 a c.requires.least) (le-leb a 4096 c.requires.most)))
