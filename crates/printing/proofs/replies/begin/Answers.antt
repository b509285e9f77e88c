use Rattle.std.proofs.Common.{◌≡◌, ◌++◌, None, codes, decimal, sym, ap, ◌∙◌}
use Rattle.printing.specs.Replies.{lane_text}
use Rattle.printing.proofs.replies.begin.Goals as goal
use Rattle.printing.proofs.replies.begin.Goals.{in-Some, in-None}

pub returns-clause-text : goal.returns-clause-text
returns-clause-text c =
    elim c.match-lane.branch [
      | in-Some w ↦
          let e : c.match-lane.line ≡ lane_text c.args.lane = w.line-is ∙ w.put_number.ensures.grows ∙ ap (λ t. t ++ decimal w.in-Some.k) c.new-line.ensures ∙ sym (ap lane_text w.in-Some.is) in
          c.put-2.ensures ∙ ap (λ t. t ++ codes " ") e
      | in-None w ↦
          let e : c.match-lane.line ≡ lane_text c.args.lane = w.line-is ∙ w.put.ensures ∙ ap (λ t. t ++ lane_text None) c.new-line.ensures ∙ sym (ap lane_text w.in-None.is) in
          c.put-2.ensures ∙ ap (λ t. t ++ codes " ") e
    ]
