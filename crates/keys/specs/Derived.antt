-- Derived keys: two tags of a list, one after the other. Assumes nothing.
--   derived_key  the 32 bytes that are derived for a list
--   cleared      what the lent bytes hold in the end
use Rattle.std.specs.Prelude.{ℕ, List, ◌++◌, replicate}
use Rattle.block_cipher.specs.Cmac.{cmac}
use Rattle.keys.specs.Encodings.{Purpose, encode}

unfoldable pub derived_key : List ℕ → Purpose → List ℕ
derived_key key p = cmac key (encode 0 p) ++ cmac key (encode 1 p)

abbrev pub cleared : List ℕ
cleared = replicate 32 0
