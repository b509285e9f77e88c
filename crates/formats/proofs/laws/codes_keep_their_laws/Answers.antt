use Rattle.formats.proofs.Texts.{first, back_and_forth}
use Rattle.formats.proofs.laws.codes_keep_their_laws.Goals as goal

pub returns : goal.returns
returns c =
    let held = c.alphabets_keep_their_laws.ensures in
    record { one_to_one = held.one_to_one; first = first; back_and_forth = back_and_forth; run_names = held.run_names }
