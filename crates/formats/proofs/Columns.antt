-- The columns of the table of least rounds, by the length. Assumes nothing.
use Rattle.std.proofs.Common.{◌≡◌, ℕ, ◌-◌, ◌≤◌, min, max, true, cond, ◌&&◌, eqb, leb, [], get_or, Some, None, sym, refl, ap, ◌∙◌, arith}
use Rattle.std.proofs.lemmas.Bool.{eqb-true, cond-true, and_from, le-leb}
use Rattle.formats.specs.LeastRounds.{column_below, column_above, rows, row_of, entry_at, tabled}
use Rattle.alphabets.proofs.Tables.{all_below, at_below}

abbrev below_by : ℕ → ℕ
below_by len = cond (leb len 11) (min len 10 - 2) (cond (leb len 15) 9 (cond (leb len 31) 10 11))

abbrev above_by : ℕ → ℕ
above_by len = cond (leb len 10) (len - 2) (cond (leb len 12) 9 (cond (leb len 16) 10 11))

equal : (f g : ℕ → ℕ) → all_below (λ n. eqb (f n) (g n)) 33 ≡ true → (n : ℕ) → n ≤ 32 → f n ≡ g n
equal f g e n h = eqb-true (f n) (g n) (at_below (λ k. eqb (f k) (g k)) 33 e n (omega arith))

pub below_by_lem : (len : ℕ) → len ≤ 32 → column_below len ≡ below_by len
unfolding column_below
below_by_lem len h = equal column_below below_by refl len h

pub above_by_lem : (len : ℕ) → len ≤ 32 → column_above len ≡ above_by len
unfolding column_above
above_by_lem len h = equal column_above above_by refl len h

-- the larger of two entries of a row
pub tabled_by : (radix len low above below r : ℕ) → 4 ≤ radix → 2 ≤ len → len ≤ 32 → low ≡ min radix 16 → below ≡ column_below len → above ≡ column_above len → r ≡ max (get_or (get_or rows (low - 4) []) below 0) (get_or (get_or rows (low - 4) []) above 0) → Some r ≡ tabled radix len
unfolding tabled
tabled_by radix len low above below r h i j e b a is =
    let same : r ≡ entry_at (row_of radix) len = is ∙ ap (λ n. max (get_or (get_or rows (n - 4) []) below 0) (get_or (get_or rows (n - 4) []) above 0)) e ∙ ap (λ n. max (get_or (row_of radix) n 0) (get_or (row_of radix) above 0)) b ∙ ap (λ n. max (get_or (row_of radix) (column_below len) 0) (get_or (row_of radix) n 0)) a in
    ap Some same ∙ sym (cond-true (leb 4 radix && (leb 2 len && leb len 32)) (Some (entry_at (row_of radix) len)) None (and_from _ _ (le-leb 4 radix h) (and_from _ _ (le-leb 2 len i) (le-leb len 32 j))))
