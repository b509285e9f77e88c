use Rattle.std.proofs.Common.{length, ◌≤◌, codes, [], ◌∷◌, ◌++◌, ap, ◌∙◌, arith}
use Rattle.std.proofs.lemmas.List.{length-append}
use Rattle.printing.specs.Replies.{lane_text, replied, line_feed}
use Rattle.printing.proofs.Bounds.{short_line}
use Rattle.printing.proofs.replies.reply.Goals as goal

pub returns-clause-value : goal.returns-clause-value
unfolding replied
returns-clause-value c =
    c.put-2.ensures
    ∙ ap (λ t. t ++ (line_feed ∷ [])) (c.put.ensures
    ∙ ap (λ t. t ++ c.args.said.now) c.begin-line.ensures.text)

pub returns-clause-short : goal.returns-clause-short
returns-clause-short c =
    let lane = lane_text c.args.lane in
    let few : length lane ≤ 3 = omega (arith, c.begin-line.ensures.few, ap length c.begin-line.ensures.text, length-append lane (codes " ")) in
    omega (arith, short_line c.args.lane c.args.said.now few c.requires, ap length (returns-clause-value c))
