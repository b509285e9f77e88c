-- Held: what every box holds, for those who use one. Assumes nothing.
use Rattle.std.proofs.Common.{◌≡◌, ℕ, ◌≤◌, true, false, ◌&&◌, leb, List, length, Some, None, ⊎_elim, arith}
use Rattle.std.proofs.lemmas.List.{length-take-le}
use Rattle.std.proofs.lemmas.Bool.{cases_Bool, cond-true, cond-false, and_parts, and_from, le-leb}
use Rattle.coins.specs.declared.sbox.Sbox.{Sbox}
use Rattle.coins.specs.Boxes.{Permutation, Undoes, permutes}
use Rattle.coins.specs.Sboxes.{entries, inverses, given}
use Rattle.coins.proofs.Boxes.{front_undoes, undone_permutes}

module _ (b : Sbox) where
  pub box_permutes : Permutation b.radix (entries b)
  box_permutes = undone_permutes b.radix b.forward b.inverse b.there (omega (arith, b.whole, b.most)) b.back

  pub inverses_long : length (inverses b) ≡ b.radix
  inverses_long = length-take-le b.radix b.inverse (omega (arith, b.whole_inverse, b.most))

  pub box_undone : Undoes b.radix (entries b) (inverses b)
  box_undone = front_undoes b.radix b.forward b.inverse b.there

  pub inverse_undone : Undoes b.radix (inverses b) (entries b)
  inverse_undone = front_undoes b.radix b.inverse b.forward b.back

-- what the answer to given entries says of them
module _ (table : List ℕ) where
  pub given_some : (row : List ℕ) → Some row ≡ given table → (permutes table ≡ true) × (row ≡ table)
  given_some row e =
      ⊎_elim
      (λ t.
      let f = cond-true ((leb 2 (length table) && leb (length table) 4096) && permutes table) (Some table) None t in
      ((and_parts (leb 2 (length table) && leb (length table) 4096) (permutes table) t).1, (cc)))
      (λ n.
      let f = cond-false ((leb 2 (length table) && leb (length table) 4096) && permutes table) (Some table) None n in
      let z : ◌≡◌ {A = ℕ} 0 1 = cc in
      absurd (omega arith))
      (cases_Bool ((leb 2 (length table) && leb (length table) 4096) && permutes table))

  pub given_none : 2 ≤ length table → length table ≤ 4096 → None ≡ given table → permutes table ≡ false
  given_none l h e =
      ⊎_elim
      (λ t.
      let f = cond-true ((leb 2 (length table) && leb (length table) 4096) && permutes table) (Some table) None
      (and_from _ _ (and_from _ _ (le-leb 2 (length table) l) (le-leb (length table) 4096 h)) t) in
      let z : ◌≡◌ {A = ℕ} 0 1 = cc in
      absurd (omega arith))
      (λ n. n)
      (cases_Bool (permutes table))
