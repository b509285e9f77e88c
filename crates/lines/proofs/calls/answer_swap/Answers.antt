use Rattle.std.proofs.Common.{◌≡◌, take, Some, subst, rules, ◌∙◌}
use Rattle.lines.specs.Answers.{AnsweredBy, asked}
use Rattle.lines.proofs.Cuts.{swap_cut}
use Rattle.lines.proofs.Fronts.{cut_at}
use Rattle.lines.proofs.calls.answer_swap.Goals as goal

pub returns : goal.returns
returns g c =
    let m = g.T.FormatCipher.meaning c.args.coder.now.cipher in
    let before = c.args.coder.now.lanes in
    let after = c.swap_text.new.coder.lanes in
    let code = c.args.code.now in
    let copied : c.unwrap-text.result.items ≡ take c.min-most.result code = search rules in
    let same : c.as_mut_slice.result.now ≡ take 33 code = c.as_mut_slice.ensures.value ∙ copied ∙ cut_at code c.min-most.result c.min-most.ensures in
    record {
      answered = swap_cut m before after c.args.lane code c.swap_text.result c.args.way
          (subst (λ t. AnsweredBy m before after (Some (asked c.args.way c.args.lane t)) c.swap_text.result) same c.swap_text.ensures.answered);
      same = c.swap_text.ensures.same;
    }
