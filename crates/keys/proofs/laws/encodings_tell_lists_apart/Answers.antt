use Rattle.std.proofs.Common.{refl}
use Rattle.keys.specs.Encodings.{encode}
use Rattle.keys.proofs.Encodes.{apart}
use Rattle.keys.proofs.laws.encodings_tell_lists_apart.Goals as goal

pub returns : goal.returns
unfolding encode
returns c = record { apart = apart; worked = refl }
