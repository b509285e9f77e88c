use Rattle.std.proofs.Common.{[], Some, sym, ap}
use Rattle.coder.specs.Calls.{ends, Reply}
use Rattle.commands.specs.Commands.{as_spelled}
use Rattle.lines.specs.LineReplies.{calls_in, done_line, printed_in}
use Rattle.lines.proofs.Made.{made}
use Rattle.lines.proofs.calls.answer_command.Goals as goal

pub returns-in-End : goal.returns-in-End
returns-in-End g c =
    let m = g.T.FormatCipher.meaning c.args.coder.now.cipher in
    let k = c.in-End.lane in
    let x : Reply = record { answer = c.end.result; text = [] } in
    let e = c.in-End.is in
    record {
      answered = made m c.args.coder.now.lanes c.end.new.self.lanes (Some (as_spelled c.args.command)) c.say_done.result c.say_done.ensures.short (ends k) (λ r. done_line (Some k) r.answer) x
          (ap (λ w. calls_in (Some (as_spelled w))) e) (λ say. sym (ap (λ w. printed_in say (Some (as_spelled w))) e)) (ap (λ r. done_line (Some k) r.answer) c.end.ensures.reply) c.end.ensures.lanes c.end.ensures.follows c.say_done.ensures.value;
      same = c.end.ensures.same;
    }
