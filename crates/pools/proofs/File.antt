-- File: the form of a pool file, and its rows one after the other. Assumes nothing.
use Rattle.std.proofs.Common.{◌≡◌, ℕ, suc, ◌+◌, ◌-◌, ◌*◌, ◌<◌, ◌≤◌, true, false, ◌&&◌, eqb, leb, List, [], ◌∷◌, ◌++◌, length, get_or, take, drop, Some, None, Err, sym, refl, ap, ◌∙◌, subst, ⊎_elim, suc-mul, zero-mul, arith}
use Rattle.std.proofs.lemmas.List.{append_assoc, append-nil, length-append, get_or-take, take_at, drop_at}
use Rattle.std.proofs.lemmas.Bool.{cases_Bool, cases_lt, cond-true, cond-false, and_parts, and_from, leb-true, eqb-true, le-leb, eq-eqb}
use Rattle.std.proofs.lemmas.Option.{some_pair_parts}
use Rattle.faults.specs.declared.fault.Cause.TheVariants.{PoolFile}
use Rattle.faults.specs.Faults.{own}
use Rattle.faults.proofs.Variants.{none≢some, some≢none}
use Rattle.coins.specs.Boxes.{permutes}
use Rattle.pools.specs.File.{marked, version, radix_of, right_form, parts, cut, first_bad, file_rows, rows_read, reading}
use Rattle.pools.specs.Rows.{rows_of}

-- ---- the form
pub record Form (bytes : List ℕ) : Type 0 where
  pub first : get_or bytes 0 0 ≡ 66
  pub second : get_or bytes 1 0 ≡ 88
  pub third : get_or bytes 2 0 ≡ 80
  pub one : version bytes ≡ 1
  pub least : 4 ≤ radix_of bytes
  pub most : radix_of bytes ≤ 64
  pub size : length bytes ≡ 6 + 256 * radix_of bytes

pub form_from : (bytes : List ℕ) → right_form bytes ≡ true → Form bytes
unfolding right_form
form_from bytes h =
    let p = and_parts (marked bytes) _ h in
    let q = and_parts (eqb (version bytes) 1) _ p.1 in
    let r = and_parts (leb 4 (radix_of bytes) && leb (radix_of bytes) 64) _ q.1 in
    let s = and_parts (leb 4 (radix_of bytes)) _ r.0 in
    let m = and_parts (eqb (get_or bytes 0 0) 66 && eqb (get_or bytes 1 0) 88) _ p.0 in
    let n = and_parts (eqb (get_or bytes 0 0) 66) _ m.0 in
    record {
      first = eqb-true _ _ n.0;
      second = eqb-true _ _ n.1;
      third = eqb-true _ _ m.1;
      one = eqb-true _ _ q.0;
      least = leb-true _ _ s.0;
      most = leb-true _ _ s.1;
      size = eqb-true _ _ r.1;
    }

pub form_true : (bytes : List ℕ) → Form bytes → right_form bytes ≡ true
unfolding right_form
form_true bytes f =
    and_from _ _
    (and_from _ _ (and_from _ _ (eq-eqb _ _ f.first) (eq-eqb _ _ f.second)) (eq-eqb _ _ f.third))
    (and_from _ _ (eq-eqb _ _ f.one) (and_from _ _ (and_from _ _ (le-leb _ _ f.least) (le-leb _ _ f.most)) (eq-eqb _ _ f.size)))

pub form_false : (bytes : List ℕ) → (Form bytes → ⊥) → right_form bytes ≡ false
form_false bytes no-form = ⊎_elim (λ t. absurd (no-form (form_from bytes t))) (λ f. f) (cases_Bool (right_form bytes))

-- ---- its parts
-- a byte of the head
pub head_at : (bytes head : List ℕ) (i : ℕ) → head ≡ take 6 bytes → i < 6 → get_or head i 0 ≡ get_or bytes i 0
head_at bytes head i e h = ap (λ l. get_or l i 0) e ∙ get_or-take 6 bytes i 0 h

pub parts_none : (bytes : List ℕ) → (Form bytes → ⊥) → None ≡ parts bytes
parts_none bytes no-form = sym (cond-false (right_form bytes) _ None (form_false bytes no-form))

pub parts_some : (bytes head rows : List ℕ) → head ≡ take 6 bytes → rows ≡ drop 6 bytes → Form bytes → Some (get_or head 5 0, rows) ≡ parts bytes
parts_some bytes head rows e f form =
    ap (λ r. Some (r, rows)) (head_at bytes head 5 e (omega arith)) ∙ ap (λ l. Some (radix_of bytes, l)) f ∙ sym (cond-true (right_form bytes) _ None (form_true bytes form))

-- what the parts of a file tell
pub parts_told : (bytes rows : List ℕ) (r : ℕ) → Some (r, rows) ≡ parts bytes → Form bytes × (r ≡ radix_of bytes) × (rows ≡ drop 6 bytes)
parts_told bytes rows r e =
    ⊎_elim
    (λ t.
    let p = some_pair_parts r (radix_of bytes) rows (drop 6 bytes) (e ∙ cond-true (right_form bytes) (Some (radix_of bytes, drop 6 bytes)) None t) in
    (form_from bytes t, p.0, p.1))
    (λ f. absurd (some≢none (r, rows) (e ∙ cond-false (right_form bytes) (Some (radix_of bytes, drop 6 bytes)) None f)))
    (cases_Bool (right_form bytes))

pub parts_missing : (bytes : List ℕ) → None ≡ parts bytes → reading bytes ≡ Err (own PoolFile)
parts_missing bytes e =
    ⊎_elim
    (λ t. absurd (none≢some (radix_of bytes, drop 6 bytes) (e ∙ cond-true (right_form bytes) (Some (radix_of bytes, drop 6 bytes)) None t)))
    (λ f. cond-false (right_form bytes) _ _ f)
    (cases_Bool (right_form bytes))

pub reading_form : (bytes : List ℕ) → Form bytes → reading bytes ≡ rows_read (file_rows bytes)
reading_form bytes f = cond-true (right_form bytes) _ _ (form_true bytes f)

-- ---- the rows
-- at row n: the boxes of the rows before it, and the bytes from it on
pub record Reading (a : ℕ) (bytes : List ℕ) (n : ℕ) (boxes : List (List ℕ)) (rest : List ℕ) : Type 0 where
  pub within : n ≤ 256
  pub left : length rest ≡ (256 - n) * a
  pub joined : boxes ++ cut a (256 - n) rest ≡ cut a 256 bytes
  pub search : first_bad n (cut a (256 - n) rest) ≡ first_bad 0 (cut a 256 bytes)

reading_none : (a : ℕ) (bytes : List ℕ) → length bytes ≡ 256 * a → Reading a bytes 0 [] bytes
reading_none a bytes l = record { within = omega arith; left = l; joined = refl; search = refl }

pub reading_start : (a radix n : ℕ) (bytes rest forward : List ℕ) → n ≡ 0 → rest ≡ bytes → length bytes ≡ 256 * a → Reading a bytes n (rows_of radix n forward) rest
unfolding rows_of
reading_start a radix n bytes rest forward z e l =
    subst (λ (n : ℕ). Reading a bytes n (rows_of radix n forward) rest) (sym z) (subst (λ (l : List ℕ). Reading a bytes 0 [] l) (sym e) (reading_none a bytes l))

module _ {a : ℕ} {bytes : List ℕ} {n : ℕ} {boxes : List (List ℕ)} {rest : List ℕ} (r : Reading a bytes n boxes rest) (some : 0 < a) where
  -- a row comes
  module _ (row after : List ℕ) (e : rest ≡ row ++ after) (long : length row ≡ a) where
    pub reading_here : n < 256
    reading_here =
        ⊎_elim
        (λ h. h)
        (λ h.
        let z : 256 - n ≡ 0 = omega arith in
        let m = ap (λ k. k * a) z ∙ zero-mul a in
        absurd (omega (arith, r.left, ap length e ∙ length-append row after)))
        (cases_lt n 256)

    more : 256 - n ≡ suc (256 - (n + 1))
    more = let h = reading_here in omega arith

    next : cut a (256 - n) rest ≡ row ∷ cut a (256 - (n + 1)) after
    unfolding cut
    next =
        ap (λ k. cut a k rest) more ∙ ap (λ l. take a l ∷ cut a (256 - (n + 1)) (drop a l)) e ∙
        ap (λ l. l ∷ cut a (256 - (n + 1)) (drop a (row ++ after))) (take_at row after a long) ∙
        ap (λ l. row ∷ cut a (256 - (n + 1)) l) (drop_at row after a long)

    pub reading_bad : permutes row ≡ false → first_bad 0 (cut a 256 bytes) ≡ Some n
    unfolding first_bad
    reading_bad h = sym r.search ∙ ap (first_bad n) next ∙ cond-false (permutes row) _ (Some n) h

    pub reading_more : permutes row ≡ true → Reading a bytes (n + 1) (boxes ++ row ∷ []) after
    unfolding first_bad
    reading_more h =
        let here = reading_here in
        let s : suc n ≡ n + 1 = omega arith in
        let m = ap (λ k. k * a) more ∙ suc-mul (256 - (n + 1)) a in
        record {
          within = omega arith;
          left = omega (arith, r.left, ap length e ∙ length-append row after, m);
          joined = append_assoc boxes (row ∷ []) (cut a (256 - (n + 1)) after) ∙ ap (λ l. boxes ++ l) (sym next) ∙ r.joined;
          search =
              ap (λ k. first_bad k (cut a (256 - (n + 1)) after)) (sym s) ∙ sym (cond-true (permutes row) _ (Some n) h) ∙
              ap (first_bad n) (sym next) ∙ r.search;
        }

  -- no row comes
  module _ (short : length rest < a) where
    pub reading_end : n ≡ 256
    reading_end =
        let w = r.within in
        ⊎_elim
        (λ h.
        let e : 256 - n ≡ suc (256 - (n + 1)) = omega arith in
        let m = ap (λ k. k * a) e ∙ suc-mul (256 - (n + 1)) a in
        absurd (omega (arith, r.left)))
        (λ h. omega arith)
        (cases_lt n 256)

    none : 256 - n ≡ 0
    none = let e = reading_end in omega arith

    pub reading_boxes : boxes ≡ cut a 256 bytes
    unfolding cut
    reading_boxes = sym (append-nil boxes) ∙ ap (λ k. boxes ++ cut a k rest) (sym none) ∙ r.joined

    pub reading_good : first_bad 0 (cut a 256 bytes) ≡ None
    unfolding cut first_bad
    reading_good = sym r.search ∙ ap (λ k. first_bad n (cut a k rest)) none
