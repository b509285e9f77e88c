use Rattle.std.proofs.Common.{map, get_or, ap, ◌∙◌, subst}
use Rattle.ciphers.specs.Meanings.{Meaning}
use Rattle.coder.specs.Entries.{asks, says}
use Rattle.coder.specs.Handed.{Follows}
use Rattle.coder.proofs.Laws.{one_list_of}
use Rattle.coder.proofs.Sofar.{entries_exist, sofar_more, sofar_all, all_answered, from_new}
use Rattle.coder.proofs.list.make_calls.Goals as goal

pub loop-item-preserved : goal.loop-item-preserved
loop-item-preserved g c =
    let lanes = c.loop-item.coder.lanes in
    let after = c.make.new.coder.lanes in
    let item = get_or c.loop-item.list c.loop-item.item-index c.item-item.result in
    let P : Meaning → Type 0 = λ m. Follows m lanes after (asks item) (says c.make.new.item) in (
      c.make.ensures.called.same ∙ c.loop-item.invariant.0,
      sofar_more c.args.list.now c.loop-item.list c.loop-item.item-index c.item-item.result c.make.new.item c.loop-item.invariant.1 c.loop-item-test.true
          (subst P c.loop-item.invariant.0 c.make.ensures.called.follows) c.make.ensures.kept c.make.ensures.answered,
    )

pub returns : goal.returns
returns g c =
    let m = g.T.FormatCipher.meaning c.args.cipher in
    let xs = c.args.list.now in
    let ys = c.loop-item.list in
    let same = ap g.T.FormatCipher.meaning c.new-coder.ensures.cipher in
    let so = c.loop-item.invariant.1 in
    let ends = c.loop-item-test.false in
    let all =
    from_new m (g.T.FormatCipher.meaning c.new-coder.result.cipher) c.new-coder.result.lanes c.loop-item.coder.lanes (map asks xs) (map says ys)
    same c.new-coder.ensures.lanes (sofar_all xs ys c.loop-item.item-index so ends) in
    record {
      law = one_list_of m (map asks xs) (map says ys) (g.met.T.FormatCipher.lawful c.args.cipher) (entries_exist xs) all.1;
      answered = all_answered xs ys c.loop-item.item-index so ends;
      kept = so.kept;
      through = all.0;
      same = c.loop-item.invariant.0 ∙ same;
    }
