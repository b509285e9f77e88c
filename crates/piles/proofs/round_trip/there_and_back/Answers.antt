use Rattle.formats.specs.Shapes.{form}
use Rattle.piles.proofs.Returned.{back_value, back_after}
use Rattle.piles.proofs.round_trip.there_and_back.Goals as goal

pub returns : goal.returns
returns g c =
    let m = g.T.FormatCipher.meaning c.args.cipher.now in
    let laws = g.met.T.FormatCipher.lawful c.args.cipher.now in
    let f = form c.args.shape.now in
    let run = c.args.run.now in
    let code = c.args.code.now in
    let mask = c.in_ok-forward.ensures in
    let now = g.T.FormatCipher.meaning c.forward.new.self in
    let next = c.forward.new.code in
    record {
      value = back_value m laws f run code mask.value now mask.same next mask.after c.backward.result c.backward.ensures.value;
      after = back_after m laws f run code mask.value now mask.same next mask.after c.backward.new.code c.backward.ensures.after;
    }
