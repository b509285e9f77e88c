use Rattle.std.proofs.Common.{List, ℕ, take, sym, ap, subst, arith}
use Rattle.coins.specs.Boxes.{Permutation}
use Rattle.coins.proofs.Boxes.{undone_permutes}
use Rattle.coins.proofs.sbox.Sbox.images.Goals as goal

pub returns-clause-permutes : goal.returns-clause-permutes
returns-clause-permutes c =
    let b = c.args.self.now in
    subst (λ (l : List ℕ). Permutation b.radix l) (sym (ap (λ n. take n b.forward) c.from.ensures)) (undone_permutes b.radix b.forward b.inverse b.there (omega arith) b.back)
