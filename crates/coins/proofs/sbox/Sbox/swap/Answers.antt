use Rattle.std.proofs.Common.{ℕ, ap, ◌∙◌}
use Rattle.coins.specs.Boxes.{swapped}
use Rattle.coins.proofs.Boxes.{swapped_front}
use Rattle.coins.proofs.sbox.Sbox.swap.Goals as goal

pub returns-clause-value : goal.returns-clause-value
returns-clause-value c =
    let s = c.args.self.now in
    let to = λ (i : ℕ) (j : ℕ). swapped s.forward i j in
    swapped_front s.radix s.forward c.swap.new.self c.args.i c.args.j c.requires.first c.requires.second
    (c.swap.ensures.by_index.3 0 ∙ ap (λ i. to i c.from-j.result) c.from-i.ensures ∙ ap (to c.args.i) c.from-j.ensures)
