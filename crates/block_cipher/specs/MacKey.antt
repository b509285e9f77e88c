-- The key that a CMAC was made with. Assumes nothing.
use Rattle.std.specs.Prelude.{ℕ, List}
use Rattle.block_cipher.specs.declared.cmac.Cmac.{Cmac}
use Rattle.block_cipher.specs.Keyed.{key_of}

unfoldable pub mac_key_of : Cmac → List ℕ
mac_key_of m = key_of m.cipher
