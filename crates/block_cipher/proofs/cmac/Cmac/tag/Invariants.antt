use Rattle.std.proofs.Common.{◌≡◌, ◌-◌, ◌*◌, drop}
use Rattle.block_cipher.specs.Cmac.{chained, zeros}
use Rattle.block_cipher.specs.MacKey.{mac_key_of}
use Rattle.block_cipher.specs.Words.{little16}
use Rattle.block_cipher.proofs.cmac.Cmac.tag.Given as goal

abbrev pub invariant-loop-block : goal.invariant-loop-block
invariant-loop-block l =
    chained (mac_key_of l.self) (little16 l.chain) (l.before - l.block-index) (drop (16 * l.block-index) l.message) ≡ chained (mac_key_of l.self) zeros l.before l.message
