-- A text is written after what a row holds. Assumes nothing.
use Rattle.std.proofs.Common.{◌≡◌, ℕ, ◌+◌, ◌-◌, ◌≤◌, List, ◌++◌, length, take, drop, replicate, refl, sym, ap, ◌∙◌, arith, rules}
use Rattle.std.proofs.lemmas.List.{drop-drop, drop-replicate}
use Rattle.std.proofs.lemmas.Slice.{take-put_mid, drop-put_mid, overwrites}
use borrow.Rule.Slice.PartMut.{put_mid}
use Rattle.printing.specs.Rows.{Row}

module _ (bytes : List ℕ) (len : ℕ) (row : Row bytes len) (text : List ℕ) (fits : len + length text ≤ 48) where
  pub row_after : Row (put_mid len (len + length text - len) bytes text) (len + length text)
  row_after = record {
    fits = fits;
    room = search (rules, overwrites);
    rest = drop-put_mid len (len + length text - len) bytes text (len + length text) (omega arith) (omega (arith, row.fits, row.room)) (omega arith)
        ∙ sym (drop-drop (length text) len bytes)
        ∙ ap (drop (length text)) row.rest
        ∙ drop-replicate (length text) (48 - len) 0
        ∙ ap (λ n. replicate n 0) (let e : 48 - len - length text ≡ 48 - (len + length text) = omega arith in e);
  }

  pub text_after : take (len + length text) (put_mid len (len + length text - len) bytes text) ≡ take len bytes ++ text
  text_after = take-put_mid len (len + length text - len) bytes text (len + length text) refl (omega (arith, row.fits, row.room))
