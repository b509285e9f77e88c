use Rattle.std.proofs.Common.{rules}
use Rattle.keys.specs.KeyBits.{key_bits}
use Rattle.keys.proofs.key_coins.KeyCoins.new.Goals as goal

pub returns : goal.returns
unfolding key_bits
returns c = search rules
