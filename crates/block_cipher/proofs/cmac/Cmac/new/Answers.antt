use Rattle.std.proofs.Common.{◌≡◌, ap, ◌∙◌}
use Rattle.block_cipher.specs.Cmac.{subkey1, subkey2, doubled}
use Rattle.block_cipher.specs.Counter.{number, bytes16}
use Rattle.block_cipher.specs.Keyed.{key_of}
use Rattle.block_cipher.specs.MacKey.{mac_key_of}
use Rattle.block_cipher.proofs.cmac.Cmac.new.Goals as goal

pub invariant_of-result : goal.invariant_of-result
unfolding subkey1 subkey2
invariant_of-result c =
    let first : c.double-k1.result ≡ subkey1 (key_of c.new-cipher.result) = c.double-k1.ensures ∙ ap (λ l. bytes16 (doubled (number l))) c.encrypt.ensures in
    record { first = first; second = c.double-k2.ensures ∙ ap (λ l. bytes16 (doubled (number l))) first }

pub returns : goal.returns
unfolding mac_key_of
returns c = c.new-cipher.ensures
