-- A flat table with each row twice finds the image of a sum. Assumes nothing.
use Rattle.std.proofs.Common.{◌≡◌, ℕ, zero, suc, ◌+◌, ◌-◌, ◌*◌, ◌%◌, ◌<◌, ◌≤◌, List, [], ◌++◌, length, get_or, take, drop, sym, ap, ◌∙◌, inl, inr, not-suc-le-zero, mod-eq_of_lt, suc-mul, zero-add, zero-mul, arith}
use native.Mathlib.Nat.{add-mod_right}
use Rattle.std.proofs.lemmas.Nat.{mul-add-lt}
use Rattle.std.proofs.lemmas.List.{length-append, length-drop, length-take-le, get_or_append_left, get_or-append_right, get_or-append-add, get_or-take}
use Rattle.std.proofs.lemmas.Bool.{cases_lt}
use Rattle.pools.specs.Rows.{rows_of, flat, Inside}
use Rattle.ciphers.specs.Layers.{image}
use Rattle.ciphers.specs.Tables.{Reads}

-- a row of a table has as many entries as the radix
row_long : (a n i : ℕ) (table : List ℕ) → n * (a + a) ≤ length table → i < n → length (get_or (rows_of a n table) i []) ≡ a
unfolding rows_of
row_long a zero i table h l = absurd (not-suc-le-zero l)
row_long a (suc n) zero table h l = length-take-le a table (omega (arith, suc-mul n (a + a)))
row_long a (suc n) (suc i) table h l =
    row_long a n i (drop (a + a) table) (omega (arith, suc-mul n (a + a), length-drop (a + a) table)) (omega arith)

-- the two copies of row i in the table of rows
flat_at : (a n i t : ℕ) (table : List ℕ) → n * (a + a) ≤ length table → i < n → t < a + a
    → get_or (flat (rows_of a n table)) (i * (a + a) + t) 0 ≡ get_or (get_or (rows_of a n table) i [] ++ get_or (rows_of a n table) i []) t 0
unfolding rows_of
flat_at a zero i t table h l g = absurd (not-suc-le-zero l)
flat_at a (suc n) zero t table h l g =
    let r = take a table in
    let lr : length r ≡ a = length-take-le a table (omega (arith, suc-mul n (a + a))) in
    ap (λ k. get_or ((r ++ r) ++ flat (rows_of a n (drop (a + a) table))) (k + t) 0) (zero-mul (a + a))
    ∙ (ap (λ k. get_or ((r ++ r) ++ flat (rows_of a n (drop (a + a) table))) k 0) (zero-add t) ∙ get_or_append_left (r ++ r) _ 0 t (omega (arith, length-append r r, lr)))
flat_at a (suc n) (suc i) t table h l g =
    let r = take a table in
    let lr : length r ≡ a = length-take-le a table (omega (arith, suc-mul n (a + a))) in
    let place : suc i * (a + a) + t ≡ length (r ++ r) + (i * (a + a) + t) = omega (arith, suc-mul i (a + a), length-append r r, lr) in
    ap (λ k. get_or ((r ++ r) ++ flat (rows_of a n (drop (a + a) table))) k 0) place
    ∙ (get_or-append-add (r ++ r) (flat (rows_of a n (drop (a + a) table))) (i * (a + a) + t) 0
    ∙ flat_at a n i t (drop (a + a) table) (omega (arith, suc-mul n (a + a), length-drop (a + a) table)) (omega arith) g)

-- an entry of two copies is the entry at the remainder
copy_at : (a t : ℕ) (r : List ℕ) → 0 < a → length r ≡ a → t < a + a → get_or (r ++ r) t 0 ≡ get_or r (t % a) 0
copy_at a t r p lr g =
    elim (cases_lt t a) [
      | inl l ↦ get_or_append_left r r 0 t (omega (arith, lr)) ∙ ap (λ k. get_or r k 0) (sym (mod-eq_of_lt l))
      | inr h ↦
          let low : t - a < a = omega arith in
          let whole : t ≡ t - a + a = omega arith in
          get_or-append_right r r a t 0 lr h ∙ ap (λ k. get_or r k 0) (sym (ap (λ n. n % a) whole ∙ (add-mod_right (t - a) a ∙ mod-eq_of_lt low)))
    ]

pub reads : (a : ℕ) (table : List ℕ) → 4 ≤ a → a ≤ 64 → length table ≡ 32768 → take (256 * (a + a)) table ≡ flat (rows_of a 256 table) → Inside a 256 (rows_of a 256 table) → Reads a table
unfolding image
reads a table least most long doubled inside = record {
  least = least;
  most = most;
  long = long;
  inside = λ i x hi hx. inside i x (hi, hx);
  looks = λ i t hi ht.
      let room : 256 * (a + a) ≤ length table = omega (arith, long, most) in
      let place : i * (a + a) + t < 256 * (a + a) = omega (arith, mul-add-lt i (a + a) t 256 hi ht) in
      sym (get_or-take (256 * (a + a)) table (i * (a + a) + t) 0 place)
      ∙ (ap (λ l. get_or l (i * (a + a) + t) 0) doubled
      ∙ (flat_at a 256 i t table room hi ht
      ∙ copy_at a t (get_or (rows_of a 256 table) i []) (omega (arith, least)) (row_long a 256 i table room hi) ht));
}
