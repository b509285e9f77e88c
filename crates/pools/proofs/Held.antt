-- Held: what every pool holds, for those who use one. Assumes nothing.
use Rattle.std.proofs.Common.{◌≡◌, ℕ, zero, suc, ◌+◌, ◌*◌, ◌<◌, ◌≤◌, List, [], ◌∷◌, ◌++◌, length, get_or, take, sym, ap, ◌∙◌, subst, suc-mul, zero-mul, arith}
use Rattle.std.specs.List.{AllByRecursion}
use Rattle.std.proofs.lemmas.Nat.{mul-le}
use Rattle.std.proofs.ByRecursion.{All-get_or}
use Rattle.std.proofs.lemmas.List.{length-append, get_or_append_left, get_or-append-add, get_or-take, take_all}
use Rattle.coins.specs.Boxes.{Permutation}
use Rattle.coins.proofs.Boxes.{undone_permutes}
use Rattle.pools.specs.declared.pool.Pool.{Pool}
use Rattle.pools.specs.Pools.{boxes, inverses, StandsTwice, Holds}
use Rattle.pools.specs.Rows.{rows_of, flat}
use Rattle.pools.proofs.Rows.{length_rows, rows_long}

-- what stands in a table of rows
flat_at : (a : ℕ) (rs : List (List ℕ)) (n t : ℕ) → AllByRecursion (λ r. length r ≡ a) rs → n < length rs → t < a + a →
    get_or (flat rs) (n * (a + a) + t) 0 ≡ get_or (get_or rs n [] ++ get_or rs n []) t 0
flat_at a [] n t all h k = absurd (omega arith)
flat_at a (r ∷ rs) zero t all h k =
    let l = all.0 in
    let e : 0 * (a + a) + t ≡ t = let z = zero-mul (a + a) in omega arith in
    ap (λ i. get_or ((r ++ r) ++ flat rs) i 0) e ∙ get_or_append_left (r ++ r) (flat rs) 0 t (simp length-append (omega arith))
flat_at a (r ∷ rs) (suc n) t all h k =
    let l = all.0 in
    let two : length (r ++ r) ≡ a + a = simp length-append (omega arith) in
    let e : suc n * (a + a) + t ≡ length (r ++ r) + (n * (a + a) + t) = let s = suc-mul n (a + a) in omega arith in
    ap (λ i. get_or ((r ++ r) ++ flat rs) i 0) e ∙ get_or-append-add (r ++ r) (flat rs) (n * (a + a) + t) 0 ∙ flat_at a rs n t all.1 (omega arith) k

module _ (a : ℕ) (table : List ℕ) (whole : length table ≡ 32768) (most : a ≤ 64)
    (doubled : take (256 * (a + a)) table ≡ flat (rows_of a 256 table)) where
  long : AllByRecursion (λ r. length r ≡ a) (rows_of a 256 table)
  long = rows_long a 256 table (omega arith)

  row_at : (n t : ℕ) → n < 256 → t < a + a → get_or table (n * (a + a) + t) 0 ≡ get_or (get_or (rows_of a 256 table) n [] ++ get_or (rows_of a 256 table) n []) t 0
  row_at n t h k =
      let room = mul-le (suc n) (a + a) 256 (a + a) h (omega arith) in
      let s = suc-mul n (a + a) in
      let c = length_rows a 256 table in
      sym (get_or-take (256 * (a + a)) table (n * (a + a) + t) 0 (omega arith)) ∙ ap (λ l. get_or l (n * (a + a) + t) 0) doubled ∙
      flat_at a (rows_of a 256 table) n t long (omega arith) k

  stands_twice : StandsTwice a table (rows_of a 256 table)
  stands_twice n x h k =
      let r = get_or (rows_of a 256 table) n [] in
      let c = length_rows a 256 table in
      let l : length r ≡ a = All-get_or (λ r. length r ≡ a) (rows_of a 256 table) n [] (omega arith) long in (
        row_at n x h (omega arith) ∙ get_or_append_left r r 0 x (omega arith),
        row_at n (a + x) h (omega arith) ∙ ap (λ m. get_or (r ++ r) (m + x) 0) (sym l) ∙ get_or-append-add r r x 0,
      )

  row_length : (n : ℕ) → n < 256 → length (get_or (rows_of a 256 table) n []) ≡ a
  row_length n h = let c = length_rows a 256 table in All-get_or (λ r. length r ≡ a) (rows_of a 256 table) n [] (omega arith) long

pub holds : (p : Pool) → Holds p
holds p =
    record {
      count = length_rows p.radix 256 p.forward;
      each = λ n h.
          let a = p.radix in
          let row = get_or (boxes p) n [] in
          let l = row_length a p.forward p.whole p.most p.doubled n h in
          subst (Permutation a) (take_all a row (omega arith))
          (undone_permutes a row (get_or (inverses p) n []) (λ x k. (p.inside n x (h, k), p.there n x (h, k))) (omega arith)
          (λ x k. (p.inside_inverse n x (h, k), p.back n x (h, k))));
      undone = λ n h x k. (p.inside n x (h, k), p.there n x (h, k));
      undone_back = λ n h x k. (p.inside_inverse n x (h, k), p.back n x (h, k));
      table = stands_twice p.radix p.forward p.whole p.most p.doubled;
      table_inverse = stands_twice p.radix p.inverse p.whole_inverse p.most p.doubled_inverse;
    }
