-- A line to print, as a row of 48 bytes. Assumes nothing.
--   Row           the first bytes of a row are a text, and zeros follow
--   filled_up     the row of a text
--   as_long       the text of a row is as long as the row says
--   filled_again  the row of that text is the row itself
use Rattle.std.specs.Prelude.{◌≡◌, ℕ, ◌-◌, ◌≤◌, List, ◌++◌, length, take, drop, replicate}
use Rattle.std.proofs.Common.{sym, ap, subst, ◌∙◌}
use Rattle.std.proofs.lemmas.List.{length-take-le, take-append-drop}

pub record Row (bytes : List ℕ) (len : ℕ) : Type 0 where
  pub fits : len ≤ 48
  pub room : length bytes ≡ 48
  pub rest : drop len bytes ≡ replicate (48 - len) 0

abbrev pub filled_up : List ℕ → List ℕ
filled_up text = text ++ replicate (48 - length text) 0

pub as_long : (bytes : List ℕ) (len : ℕ) → Row bytes len → length (take len bytes) ≡ len
as_long bytes len row = length-take-le len bytes (subst (λ n. len ≤ n) (sym row.room) row.fits)

pub filled_again : (bytes : List ℕ) (len : ℕ) → Row bytes len → filled_up (take len bytes) ≡ bytes
filled_again bytes len row =
    ap (λ n. take len bytes ++ replicate (48 - n) 0) (as_long bytes len row)
    ∙ ap (λ zeros. take len bytes ++ zeros) (sym row.rest)
    ∙ take-append-drop len bytes
