use Rattle.std.proofs.Common.{map}
use Rattle.coder.specs.Entries.{asks, says}
use Rattle.coder.proofs.Laws.{two_lists_of}
use Rattle.coder.proofs.Sofar.{entries_exist}
use Rattle.coder.proofs.list.make_two_lists.Goals as goal

pub returns : goal.returns
returns g c =
    let one = c.make_calls-first.ensures in
    let two = c.make_calls-second.ensures in
    record {
      law =
          two_lists_of (g.S.FormatCipher.meaning c.args.cipher) (g.T.FormatCipher.meaning c.args.other) (map asks c.args.list.now) (map asks c.args.others.now)
          (map says c.make_calls-first.new.list) (map says c.make_calls-second.new.list) (g.met.S.FormatCipher.lawful c.args.cipher)
          (g.met.T.FormatCipher.lawful c.args.other) (entries_exist c.args.list.now) (entries_exist c.args.others.now) one.law.each two.law.each;
      answered = (one.answered, two.answered);
      kept = (one.kept, two.kept);
      through = (one.through, two.through);
      same = (one.same, two.same);
    }
