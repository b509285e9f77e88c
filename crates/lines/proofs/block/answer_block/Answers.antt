use Rattle.std.proofs.Common.{◌≡◌, ◌+◌, ◌-◌, ◌<◌, length, take, refl, sym, ◌∙◌, subst, arith, set}
use Rattle.std.proofs.lemmas.List.{set-get_or}
use Rattle.commands.specs.Commands.{spelled}
use Rattle.lines.specs.Answers.{AnsweredBy}
use Rattle.lines.specs.Blocks.{Feedless, BlockBy}
use Rattle.lines.proofs.Blocks.{Sofar, ends, one_more, left_inside, left_used, left_is}
use Rattle.lines.proofs.Feeds.{none_left, within}
use Rattle.lines.proofs.block.answer_block.Goals as goal

pub returns-in_default : goal.returns-in_default
returns-in_default g c =
    let m = g.T.FormatCipher.meaning c.args.coder.now.cipher in
    let block = c.args.block.now in
    let rest = c.loop-i.rest.now in
    let used = length block - length rest in
    let i = c.loop-i.i in
    let filled = c.loop-i.slots in
    let inv = c.loop-i.invariant in
    record {
      answered = subst (λ ps. BlockBy m c.args.coder.now.lanes c.loop-i.coder.lanes block used i c.args.slots.now ps) (sym (set-get_or filled i c.index-slots-i.result))
          (ends m c.args.coder.now.lanes c.loop-i.coder.lanes block used i c.args.slots.now filled inv.3 (λ h. subst Feedless inv.2 (none_left rest c.in_default.ensures)));
      same = inv.0;
    }

pub loop-i-preserved : goal.loop-i-preserved
loop-i-preserved g c =
    let m = g.T.FormatCipher.meaning c.args.coder.now.cipher in
    let before = c.args.coder.now.lanes in
    let now = c.loop-i.coder.lanes in
    let after = c.answer_line.new.coder.lanes in
    let block = c.args.block.now in
    let rest = c.loop-i.rest.now in
    let used = length block - length rest in
    let i = c.loop-i.i in
    let n = c.in-Some.end in
    let p = c.answer_line.result in
    let line = take n rest in
    let inv = c.loop-i.invariant in
    let slot : i < length c.loop-i.slots = omega arith in
    let more = within rest n c.in-Some.ensures in (
      c.answer_line.ensures.same ∙ inv.0,
      left_inside block rest n inv.1 inv.2 more,
      left_is block rest n inv.1 inv.2 more,
      subst (λ u. Sofar m before after block u (i + 1) c.args.slots.now (set c.loop-i.slots i p)) (sym (left_used block rest n inv.1 inv.2 more))
          (one_more m before now block used i c.args.slots.now c.loop-i.slots inv.3 after n p rest line inv.2 refl c.in-Some.ensures slot
          (subst (λ x. AnsweredBy x now after (spelled line) p) inv.0 c.answer_line.ensures.answered)),
    )

pub returns : goal.returns
returns g c =
    let m = g.T.FormatCipher.meaning c.args.coder.now.cipher in
    let before = c.args.coder.now.lanes in
    let now = c.loop-i.coder.lanes in
    let block = c.args.block.now in
    let used = length block - length c.loop-i.rest.now in
    let i = c.loop-i.i in
    let slots = c.args.slots.now in
    let filled = c.loop-i.slots in
    let inv = c.loop-i.invariant in
    let all : i ≡ length filled = omega arith in
    record {
      answered = subst (λ k. BlockBy m before now block used k slots filled) all (ends m before now block used i slots filled inv.3 (λ h. absurd (omega arith)));
      same = inv.0;
    }
