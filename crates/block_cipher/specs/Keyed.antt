-- The key that a cipher was made with: the first of its round keys. Assumes nothing.
use Rattle.std.specs.Prelude.{ℕ, List, [], map, slice_index_or}
use Rattle.block_cipher.specs.declared.aes.Aes128.{Aes128}
use Rattle.block_cipher.specs.Words.{bytes_of}

unfoldable pub key_of : Aes128 → List ℕ
key_of c = slice_index_or (map bytes_of c.round_keys) 0 []
