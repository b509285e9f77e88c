use Rattle.std.proofs.Common.{◌≡◌, [], Some, Ok, sym, ap}
use Rattle.formats.specs.Shapes.{form}
use Rattle.formats.specs.ShapeTexts.{read_form}
use Rattle.coder.specs.Calls.{starts, Reply}
use Rattle.commands.specs.Commands.{start}
use Rattle.lines.specs.LineReplies.{done_line, start_calls, start_line}
use Rattle.lines.proofs.Made.{made}
use Rattle.lines.proofs.calls.read_and_start.Goals as goal

pub returns : goal.returns
returns g c = λ p holds short.
    let m = g.T.FormatCipher.meaning c.args.coder.now.cipher in
    let k = c.args.lane in
    let run = c.args.run.now in
    let x : Reply = record { answer = c.start.result; text = [] } in
    let e : read_form c.args.shape.now ≡ Ok (form c.in_ok-read.field-0) = sym c.in_ok-read.ensures in
    record {
      answered = made m c.args.coder.now.lanes c.start.new.self.lanes (Some (start k run c.args.shape.now)) p short (starts k run (form c.in_ok-read.field-0)) (λ r. done_line (Some k) r.answer) x
          (ap (start_calls k run) e) (λ say. ap (start_line say k run) (sym e)) (ap (λ r. done_line (Some k) r.answer) c.start.ensures.reply) c.start.ensures.lanes c.start.ensures.follows holds;
      same = c.start.ensures.same;
    }
