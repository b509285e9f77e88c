-- Rows: what a table holds after a row is written, and where each entry stands. Assumes nothing.
use Rattle.std.proofs.Common.{◌≡◌, ℕ, zero, suc, ◌+◌, ◌-◌, ◌*◌, ◌<◌, ◌≤◌, List, [], ◌∷◌, ◌++◌, length, get_or, take, drop, set, sym, refl, ap, ◌∙◌, subst, ⊎_elim, suc-mul, zero-mul, arith, below_more}
use Rattle.std.specs.List.{AllByRecursion}
use Rattle.std.proofs.lemmas.Nat.{mul-le}
use Rattle.std.proofs.ByRecursion.{All-push, All-from_get_or}
use Rattle.std.proofs.lemmas.List.{append_assoc, append-nil, length-append, length-drop, length-take-le, length_push, take_at, drop_at, get_or_append_left, get_or-append_right, get_or_push, get_or-set_same, get_or-set_other, length-set, ext_get_or, drop-drop}
use Rattle.std.proofs.lemmas.Bool.{cases_lt}
use Rattle.coins.specs.Boxes.{Undoes}
use Rattle.pools.specs.Rows.{rows_of, flat, written, Filled}

pub length_rows : (a m : ℕ) (table : List ℕ) → length (rows_of a m table) ≡ m
unfolding rows_of
length_rows a zero table = refl
length_rows a (suc m) table = ap suc (length_rows a m (drop (a + a) table))

pub rows_long : (a m : ℕ) (table : List ℕ) → m * (a + a) ≤ length table → AllByRecursion (λ r. length r ≡ a) (rows_of a m table)
unfolding rows_of
rows_long a zero table h = tt
rows_long a (suc m) table h =
    let e = suc-mul m (a + a) in
    (length-take-le a table (omega arith), rows_long a m (drop (a + a) table) (simp length-drop (omega arith)))

pub length_flat : (a : ℕ) (rs : List (List ℕ)) → AllByRecursion (λ r. length r ≡ a) rs → length (flat rs) ≡ length rs * (a + a)
length_flat a [] h = sym (zero-mul (a + a))
length_flat a (r ∷ rs) h =
    let e = length_flat a rs h.1 in
    let f = suc-mul (length rs) (a + a) in
    let l = h.0 in
    simp length-append (omega arith)

-- a table of rows has those rows
pub rows_flat : (a : ℕ) (rs : List (List ℕ)) (rest : List ℕ) → AllByRecursion (λ r. length r ≡ a) rs → rows_of a (length rs) (flat rs ++ rest) ≡ rs
unfolding rows_of
rows_flat a [] rest h = refl
rows_flat a (r ∷ rs) rest h =
    let whole : ((r ++ r) ++ flat rs) ++ rest ≡ (r ++ r) ++ (flat rs ++ rest) = append_assoc (r ++ r) (flat rs) rest in
    let more : (r ++ r) ++ (flat rs ++ rest) ≡ r ++ (r ++ (flat rs ++ rest)) = append_assoc r r (flat rs ++ rest) in
    let two : length (r ++ r) ≡ a + a = let l = h.0 in simp length-append (omega arith) in
    let first : take a (((r ++ r) ++ flat rs) ++ rest) ≡ r = ap (take a) (whole ∙ more) ∙ take_at r (r ++ (flat rs ++ rest)) a h.0 in
    let past : drop (a + a) (((r ++ r) ++ flat rs) ++ rest) ≡ flat rs ++ rest = ap (drop (a + a)) whole ∙ drop_at (r ++ r) (flat rs ++ rest) (a + a) two in
    ap (λ l. l ∷ rows_of a (length rs) (drop (a + a) (((r ++ r) ++ flat rs) ++ rest))) first ∙
    ap (λ l. r ∷ rows_of a (length rs) l) past ∙ ap (λ l. r ∷ l) (rows_flat a rs rest h.1)

flat_push : (rs : List (List ℕ)) (r : List ℕ) → flat (rs ++ r ∷ []) ≡ flat rs ++ (r ++ r)
flat_push [] r = append-nil (r ++ r)
flat_push (s ∷ rs) r = ap (λ l. (s ++ s) ++ l) (flat_push rs r) ∙ sym (append_assoc (s ++ s) (flat rs) (r ++ r))

-- one row more
module _ (a m : ℕ) (table row : List ℕ) (long : length row ≡ a) (room : m * (a + a) + (a + a) ≤ length table)
    (doubled : take (m * (a + a)) table ≡ flat (rows_of a m table)) where
  all_long : AllByRecursion (λ r. length r ≡ a) (rows_of a m table ++ row ∷ [])
  all_long = All-push (λ r. length r ≡ a) (rows_of a m table) row (rows_long a m table (omega arith)) long

  shape : written a m table row ≡ flat (rows_of a m table ++ row ∷ []) ++ drop (m * (a + a) + (a + a)) table
  shape =
      ap (λ l. l ++ ((row ++ row) ++ drop (m * (a + a) + (a + a)) table)) doubled ∙
      sym (append_assoc (flat (rows_of a m table)) (row ++ row) (drop (m * (a + a) + (a + a)) table)) ∙
      ap (λ l. l ++ drop (m * (a + a) + (a + a)) table) (sym (flat_push (rows_of a m table) row))

  count : length (rows_of a m table ++ row ∷ []) ≡ m + 1
  count = length_push (rows_of a m table) row ∙ ap (λ n. n + 1) (length_rows a m table)

  pub rows_written : rows_of a (m + 1) (written a m table row) ≡ rows_of a m table ++ row ∷ []
  rows_written =
      ap (λ l. rows_of a (m + 1) l) shape ∙ ap (λ n. rows_of a n (flat (rows_of a m table ++ row ∷ []) ++ drop (m * (a + a) + (a + a)) table)) (sym count) ∙
      rows_flat a (rows_of a m table ++ row ∷ []) (drop (m * (a + a) + (a + a)) table) all_long

  pub doubled_written : take ((m + 1) * (a + a)) (written a m table row) ≡ flat (rows_of a (m + 1) (written a m table row))
  doubled_written =
      let l = length_flat a (rows_of a m table ++ row ∷ []) all_long in
      let n : length (flat (rows_of a m table ++ row ∷ [])) ≡ (m + 1) * (a + a) = l ∙ ap (λ n. n * (a + a)) count in
      ap (take ((m + 1) * (a + a))) shape ∙ take_at (flat (rows_of a m table ++ row ∷ [])) (drop (m * (a + a) + (a + a)) table) ((m + 1) * (a + a)) n ∙
      ap flat (sym rows_written)

  -- the rows below are as they were, and the last is the row
  pub row_below : (n : ℕ) → n < m → get_or (rows_of a (m + 1) (written a m table row)) n [] ≡ get_or (rows_of a m table) n []
  row_below n h =
      let l = length_rows a m table in
      ap (λ l. get_or l n []) rows_written ∙ get_or_append_left (rows_of a m table) (row ∷ []) [] n (omega arith)

  pub row_last : get_or (rows_of a (m + 1) (written a m table row)) m [] ≡ row
  row_last = ap (λ l. get_or l m []) rows_written ∙ get_or_push (rows_of a m table) row [] m (length_rows a m table)

pub filled_none : (a : ℕ) (forward inverse : List ℕ) → Filled a 0 forward inverse
unfolding rows_of
filled_none a forward inverse =
    record {
      doubled = ap (λ n. take n forward) (zero-mul (a + a));
      doubled_inverse = ap (λ n. take n inverse) (zero-mul (a + a));
      inside = λ n x h. absurd (omega (arith, h.0));
      inside_inverse = λ n x h. absurd (omega (arith, h.0));
      there = λ n x h. absurd (omega (arith, h.0));
      back = λ n x h. absurd (omega (arith, h.0));
    }

-- a fact of each of the first m rows and of the last one
each_row : (m : ℕ) (P : ℕ → Type 0) → ((n : ℕ) → n < m → P n) → P m → (n : ℕ) → n < m + 1 → P n
each_row m P below last n h = ⊎_elim (below n) (λ k. let e : m ≡ n = omega arith in subst P e last) (cases_lt n m)

-- a box and its inverse, written as the next rows
module _ (a m : ℕ) (forward inverse row back : List ℕ) (long : length row ≡ a) (long-back : length back ≡ a)
    (room : m * (a + a) + (a + a) ≤ length forward) (room_back : m * (a + a) + (a + a) ≤ length inverse)
    (f : Filled a m forward inverse) where
  after : List (List ℕ)
  after = rows_of a (m + 1) (written a m forward row)

  after_back : List (List ℕ)
  after_back = rows_of a (m + 1) (written a m inverse back)

  below : (n : ℕ) → n < m → get_or after n [] ≡ get_or (rows_of a m forward) n []
  unfolding after
  below = row_below a m forward row long room f.doubled

  below_back : (n : ℕ) → n < m → get_or after_back n [] ≡ get_or (rows_of a m inverse) n []
  unfolding after_back
  below_back = row_below a m inverse back long-back room_back f.doubled_inverse

  last : get_or after m [] ≡ row
  unfolding after
  last = row_last a m forward row long room f.doubled

  last_back : get_or after_back m [] ≡ back
  unfolding after_back
  last_back = row_last a m inverse back long-back room_back f.doubled_inverse

  pub filled_more : Undoes a row back → Undoes a back row → Filled a (m + 1) (written a m forward row) (written a m inverse back)
  unfolding after after_back
  filled_more there again =
      record {
        doubled = doubled_written a m forward row long room f.doubled;
        doubled_inverse = doubled_written a m inverse back long-back room_back f.doubled_inverse;
        inside = λ n x h.
            each_row m (λ n. get_or (get_or after n []) x 0 < a)
            (λ n l. subst (λ (r : List ℕ). get_or r x 0 < a) (sym (below n l)) (f.inside n x (l, h.1)))
            (subst (λ (r : List ℕ). get_or r x 0 < a) (sym last) (there x h.1).0) n h.0;
        inside_inverse = λ n x h.
            each_row m (λ n. get_or (get_or after_back n []) x 0 < a)
            (λ n l. subst (λ (r : List ℕ). get_or r x 0 < a) (sym (below_back n l)) (f.inside_inverse n x (l, h.1)))
            (subst (λ (r : List ℕ). get_or r x 0 < a) (sym last_back) (again x h.1).0) n h.0;
        there = λ n x h.
            each_row m (λ n. get_or (get_or after_back n []) (get_or (get_or after n []) x 0) 0 ≡ x)
            (λ n l. ap (λ r. get_or r (get_or (get_or after n []) x 0) 0) (below_back n l) ∙ ap (λ r. get_or (get_or (rows_of a m inverse) n []) (get_or r x 0) 0) (below n l) ∙ f.there n x (l, h.1))
            (ap (λ r. get_or r (get_or (get_or after m []) x 0) 0) last_back ∙ ap (λ r. get_or back (get_or r x 0) 0) last ∙ (there x h.1).1) n h.0;
        back = λ n x h.
            each_row m (λ n. get_or (get_or after n []) (get_or (get_or after_back n []) x 0) 0 ≡ x)
            (λ n l. ap (λ r. get_or r (get_or (get_or after_back n []) x 0) 0) (below n l) ∙ ap (λ r. get_or (get_or (rows_of a m forward) n []) (get_or r x 0) 0) (below_back n l) ∙ f.back n x (l, h.1))
            (ap (λ r. get_or r (get_or (get_or after_back m []) x 0) 0) last ∙ ap (λ r. get_or row (get_or r x 0) 0) last_back ∙ (again x h.1).1) n h.0;
      }

-- ---- a row written entry by entry
abbrev pub Twice : List ℕ → List ℕ → ℕ → Type 0
Twice entries row i = (k : ℕ) → k < i → (get_or row k 0 ≡ get_or entries k 0) × (get_or row (length entries + k) 0 ≡ get_or entries k 0)

module _ (entries row : List ℕ) (whole : length row ≡ length entries + length entries) where
  pub twice_more : (i : ℕ) → i < length entries → Twice entries row i →
      Twice entries (set (set row i (get_or entries i 0)) (length entries + i) (get_or entries i 0)) (i + 1)
  twice_more i h t =
      below_more (λ k. (get_or (set (set row i (get_or entries i 0)) (length entries + i) (get_or entries i 0)) k 0 ≡ get_or entries k 0)
      × (get_or (set (set row i (get_or entries i 0)) (length entries + i) (get_or entries i 0)) (length entries + k) 0 ≡ get_or entries k 0)) i
      (λ k l. (
        get_or-set_other (set row i _) (length entries + i) k _ 0 (λ e. omega arith) ∙ get_or-set_other row i k _ 0 (λ e. omega arith) ∙ (t k l).0,
        get_or-set_other (set row i _) (length entries + i) (length entries + k) _ 0 (λ e. omega arith) ∙
            get_or-set_other row i (length entries + k) _ 0 (λ e. omega arith) ∙ (t k l).1,
      )) (
        get_or-set_other (set row i _) (length entries + i) i _ 0 (λ e. omega arith) ∙ get_or-set_same row i _ 0 (omega arith),
        get_or-set_same (set row i _) (length entries + i) _ 0 (simp length-set (omega arith)),
      )

  pub twice_all : Twice entries row (length entries) → row ≡ entries ++ entries
  twice_all t =
      ext_get_or 0 row (entries ++ entries) (whole ∙ sym (length-append entries entries)) (λ k h.
      ⊎_elim
      (λ l. (t k l).0 ∙ sym (get_or_append_left entries entries 0 k l))
      (λ l.
      let e : k ≡ length entries + (k - length entries) = omega arith in
      ap (λ n. get_or row n 0) e ∙ (t (k - length entries) (omega arith)).1 ∙ sym (get_or-append_right entries entries (length entries) k 0 refl l))
      (cases_lt k (length entries)))

-- a part of a table, written
pub part_written : (a n w k : ℕ) (table row part : List ℕ) → w ≡ a + a → k ≡ w → part ≡ row ++ row →
    take (n * w) table ++ (part ++ drop k (drop (n * w) table)) ≡ written a n table row
part_written a n w k table row part e f g =
    ap (λ m. take (n * w) table ++ (part ++ drop m (drop (n * w) table))) f ∙
    ap (λ l. take (n * w) table ++ (part ++ l)) (drop-drop w (n * w) table) ∙
    ap (λ p. take (n * w) table ++ (p ++ drop (n * w + w) table)) g ∙
    ap (λ w. take (n * w) table ++ ((row ++ row) ++ drop (n * w + w) table)) e

-- 256 rows of at most 64 entries, twice, have room
pub rows_room : (a n : ℕ) → n < 256 → a ≤ 64 → n * (a + a) + (a + a) ≤ 32768
rows_room a n h k =
    let m = mul-le (suc n) (a + a) 256 128 h (omega arith) in
    let e = suc-mul n (a + a) in
    omega arith

-- the entries of a box of at most 64 are bytes
pub entries_bytes : (a : ℕ) (row : List ℕ) → length row ≡ a → a ≤ 64 → ((x : ℕ) → x < a → get_or row x 0 < a) → AllByRecursion (λ x. x < 256) row
entries_bytes a row long most inside = All-from_get_or (λ x. x < 256) row 0 (λ i h. let l = inside i (omega arith) in omega arith)
