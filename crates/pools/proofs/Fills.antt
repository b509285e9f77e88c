-- Fills: tables after one box more. Assumes nothing.
use Rattle.std.proofs.Common.{◌≡◌, ℕ, ◌+◌, ◌*◌, ◌<◌, ◌≤◌, List, [], ◌∷◌, ◌++◌, length, sym, ap, ◌∙◌, subst, arith}
use Rattle.coins.specs.declared.sbox.Sbox.{Sbox}
use Rattle.coins.specs.Sboxes.{entries, inverses}
use Rattle.coins.proofs.Held.{box_permutes, inverses_long, box_undone, inverse_undone}
use Rattle.pools.specs.Rows.{rows_of, written, Filled}
use Rattle.pools.proofs.Rows.{rows_written, rows_room, filled_more}

-- the tables hold a box more, and its entries are their next row
abbrev pub Grown : ℕ → ℕ → List ℕ → List ℕ → List ℕ → List ℕ → Type 0
Grown a n forward forward' inverse' row = Filled a (n + 1) forward' inverse' × (rows_of a (n + 1) forward' ≡ rows_of a n forward ++ row ∷ [])

module _ (b : Sbox) (n : ℕ) (forward inverse forward' inverse' : List ℕ) (here : n < 256)
    (whole : length forward ≡ 32768) (whole-inverse : length inverse ≡ 32768)
    (put : forward' ≡ written b.radix n forward (entries b)) (put-inverse : inverse' ≡ written b.radix n inverse (inverses b)) where
  grown_here : b.radix ≤ 64 → Filled b.radix n forward inverse → Grown b.radix n forward forward' inverse' (entries b)
  grown_here most f =
      let a = b.radix in
      let long = (box_permutes b).long in
      let room = rows_room a n here most in
      let fits : n * (a + a) + (a + a) ≤ length forward = omega arith in
      let fits-inverse : n * (a + a) + (a + a) ≤ length inverse = omega arith in
      let g = filled_more a n forward inverse (entries b) (inverses b) long (inverses_long b) fits fits-inverse f (box_undone b) (inverse_undone b) in
      let rows = rows_written a n forward (entries b) long fits f.doubled in (
        subst (λ (l : List ℕ). Filled a (n + 1) forward' l) (sym put-inverse) (subst (λ (l : List ℕ). Filled a (n + 1) l (written a n inverse (inverses b))) (sym put) g),
        ap (rows_of a (n + 1)) put ∙ rows,
      )

  pub grown : (a : ℕ) → b.radix ≡ a → a ≤ 64 → Filled a n forward inverse → Grown a n forward forward' inverse' (entries b)
  grown a e = subst (λ (a : ℕ). a ≤ 64 → Filled a n forward inverse → Grown a n forward forward' inverse' (entries b)) e grown_here
