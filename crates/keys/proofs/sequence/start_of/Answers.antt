use Rattle.std.proofs.Common.{[], ◌∷◌, ◌++◌, take, ap, ◌∙◌, arith, rules}
use Rattle.keys.proofs.Pieces.{last_cleared}
use Rattle.keys.proofs.sequence.start_of.Goals as goal

pub returns : goal.returns
returns c =
    last_cleared c.second_half-start.result c.fill.new.self _ (omega arith) (omega (arith, c.fill.ensures.len, c.fill.auto.self)) (c.fill.ensures.after (λ y h. search rules)) ∙ ap (λ l. take 14 l ++ 0 ∷ 0 ∷ []) c.second_half-start.ensures
