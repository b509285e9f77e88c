-- The cipher's machine words as bytes, the first byte lowest. Assumes nothing.
--   quad      the four bytes of a word
--   turned    four bytes turned round n times, the last one coming first
--   bytes_of  the sixteen bytes of four words
--   little16  the sixteen bytes of a number below 2^128
use Rattle.std.specs.Prelude.{ℕ, zero, suc, ◌/◌, ◌%◌, ◌^◌, List, [], ◌∷◌, ◌++◌, slice_index}
use Rattle.block_cipher.specs.Aes.{block}
use Rattle.block_cipher.specs.declared.columns.Columns.{Columns}

abbrev pub quad : ℕ → List ℕ
quad w = (w % 256) ∷ (w / 256 % 256) ∷ (w / 65536 % 256) ∷ (w / 16777216 % 256) ∷ []

-- the last byte comes first
abbrev pub around : List ℕ → List ℕ
around w = slice_index w 3 ∷ slice_index w 0 ∷ slice_index w 1 ∷ slice_index w 2 ∷ []

abbrev pub turned : ℕ → List ℕ → List ℕ
turned zero w = w
turned (suc n) w = around (turned n w)

abbrev pub bytes_of : Columns → List ℕ
bytes_of s = quad s.a ++ (quad s.b ++ (quad s.c ++ quad s.d))

abbrev pub little16 : ℕ → List ℕ
little16 n = block (λ k. n / 256 ^ k % 256)
