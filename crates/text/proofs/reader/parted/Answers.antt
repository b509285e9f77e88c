use Rattle.std.proofs.Common.{◌≡◌, ◌+◌, take, ap, ◌∙◌, sym, rules, tests, refl}
use Rattle.std.specs.List.{position}
use Rattle.std.proofs.lemmas.List.{take_rest}
use Rattle.std.proofs.lemmas.Iterator.{YieldsList-from_slice}
use Rattle.std.proofs.lemmas.Iterator.Search.{position_from_yields_List}
use Rattle.text.specs.Words.{words_of}
use Rattle.text.proofs.Splits.{is_space, first_take, follows, ends, at_the_first, nowhere, all_of_it}
use Rattle.text.proofs.reader.parted.Goals as goal
use Rattle.text.proofs.reader.parted.Goals.{After-position}

-- the first space is found
found : (c : After-position) → c.position.result ≡ position is_space c.args.line.now
found c =
    position_from_yields_List is_space _ _ _ c.position.ensures.ran (YieldsList-from_slice c.args.line.now cc) (λ x b q k. search (rules, tests))

pub returns-in-Some : goal.returns-in-Some
returns-in-Some c =
    let at = (goal.at.returns-in-Some c).After-position in
    let here = at_the_first c.args.line.now c.in-Some.end (sym (found at) ∙ c.in-Some.is) in
    record {
      first = ap (λ n. take n c.args.line.now) here.0 ∙ first_take c.args.line.now;
      later = ap words_of (take_rest c.args.line.now (c.in-Some.end + 1)) ∙ follows c.args.line.now c.in-Some.end here.0 here.1;
    }

pub returns-in-None : goal.returns-in-None
returns-in-None c =
    let past = nowhere c.args.line.now (sym (found (goal.at.returns-in-None c).After-position) ∙ c.in-None.is) in
    record { first = all_of_it c.args.line.now past; later = ends c.args.line.now _ refl past }
