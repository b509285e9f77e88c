use Rattle.alphabets.proofs.RunNames.{tells}
use Rattle.alphabets.proofs.Symbols.{one_to_one}
use Rattle.alphabets.proofs.laws.alphabets_keep_their_laws.Goals as goal

pub returns : goal.returns
returns c = record { one_to_one = one_to_one; run_names = tells }
