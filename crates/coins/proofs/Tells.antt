-- Tells: a table whose entries are below its length, none twice, holds every number below its length. Assumes nothing.
use Rattle.std.proofs.Common.{◌≡◌, ℕ, zero, suc, ◌+◌, ◌<◌, ◌≤◌, Bool, true, false, cond, not, ◌&&◌, ◌||◌, eqb, ltb, ◌≢◌, List, [], ◌∷◌, length, get_or, sym, refl, ap, ◌∙◌, ⊎_elim, arith}
use Rattle.std.specs.List.{list_any}
use Rattle.std.proofs.lemmas.Bool.{cases_eq, cases_Bool, and_parts, and_from, and_left, and_right, eqb-true, eqb-false, eq-eqb, ne_eqb, ltb-true, lt-ltb, le-ltb, not-true, not_from_true, not_from_false, both_ways, cond-true, cond-false}
use Rattle.coins.specs.Boxes.{Permutation, absent, below_once, permutes, Tells}
use Rattle.coins.specs.Fair.{passing}

-- ---- where a number stands
absent_at : (y : ℕ) (xs : List ℕ) (z : ℕ) → absent y xs ≡ true → z < length xs → get_or xs z 0 ≢ y
absent_at y [] z h l = absurd (omega arith)
absent_at y (x ∷ xs) zero h l = eqb-false x y (not-true (eqb x y) (and_parts (not (eqb x y)) (absent y xs) h).0)
absent_at y (x ∷ xs) (suc z) h l = absent_at y xs z (and_parts (not (eqb x y)) (absent y xs) h).1 (omega arith)

absent_from : (y : ℕ) (xs : List ℕ) → ((z : ℕ) → z < length xs → get_or xs z 0 ≢ y) → absent y xs ≡ true
absent_from y [] h = refl
absent_from y (x ∷ xs) h =
    and_from (not (eqb x y)) (absent y xs) (not_from_false (eqb x y) (ne_eqb x y (h 0 (omega arith)))) (absent_from y xs (λ z l. h (suc z) (omega arith)))

present_at : (y : ℕ) (xs : List ℕ) → absent y xs ≡ false → (z : ℕ) × (z < length xs) × (get_or xs z 0 ≡ y)
present_at y [] h = absurd (both_ways true h refl)
present_at y (x ∷ xs) h =
    ⊎_elim
    (λ e. (0, omega arith, eqb-true x y e))
    (λ n.
    let r = present_at y xs (sym (ap (λ b. not b && absent y xs) n) ∙ h) in
    (suc r.0, omega (arith, r.1), r.2))
    (cases_Bool (eqb x y))

-- ---- how many numbers pass a test
passing_same : (p q : ℕ → Bool) (n : ℕ) → ((y : ℕ) → y < n → p y ≡ q y) → passing p n ≡ passing q n
unfolding passing
passing_same p q zero h = refl
passing_same p q (suc n) h =
    let e = passing_same p q n (λ y l. h y (omega arith)) in
    let f : ◌≡◌ {A = ℕ} (cond (p n) 1 0) (cond (q n) 1 0) = ap (λ b. cond b 1 0) (h n (omega arith)) in
    omega arith

-- one more passes
passing_more : (p q : ℕ → Bool) (x n : ℕ) → x < n → p x ≡ false → q x ≡ true → ((y : ℕ) → y ≢ x → q y ≡ p y) → passing q n ≡ passing p n + 1
unfolding passing
passing_more p q x zero l f t same = absurd (omega arith)
passing_more p q x (suc n) l f t same =
    ⊎_elim
    (λ (e : n ≡ x).
    let a : ◌≡◌ {A = ℕ} (cond (p n) 1 0) 0 = cond-false (p n) 1 0 (ap p e ∙ f) in
    let b : ◌≡◌ {A = ℕ} (cond (q n) 1 0) 1 = cond-true (q n) 1 0 (ap q e ∙ t) in
    let s = passing_same q p n (λ y k. same y (λ m. omega arith)) in
    omega arith)
    (λ ne.
    let a : ◌≡◌ {A = ℕ} (cond (q n) 1 0) (cond (p n) 1 0) = ap (λ b. cond b 1 0) (same n ne) in
    let lt : x < n = omega (arith, λ (e : n ≡ x). ne e) in
    let s = passing_more p q x n lt f t same in
    omega arith)
    (cases_eq n x)

passing_none : (n : ℕ) → passing (λ _. false) n ≡ 0
unfolding passing
passing_none zero = refl
passing_none (suc n) = let e = passing_none n in omega arith

passing_most : (p : ℕ → Bool) (n : ℕ) → passing p n ≤ n
unfolding passing
passing_most p zero = omega arith
passing_most p (suc n) =
    let h = passing_most p n in
    ⊎_elim
    (λ t. let a : ◌≡◌ {A = ℕ} (cond (p n) 1 0) 1 = cond-true (p n) 1 0 t in omega arith)
    (λ f. let a : ◌≡◌ {A = ℕ} (cond (p n) 1 0) 0 = cond-false (p n) 1 0 f in omega arith)
    (cases_Bool (p n))

-- where all pass, each does
passing_all : (p : ℕ → Bool) (n : ℕ) → passing p n ≡ n → (y : ℕ) → y < n → p y ≡ true
unfolding passing
passing_all p zero e y l = absurd (omega arith)
passing_all p (suc n) e y l =
    let m = passing_most p n in
    ⊎_elim
    (λ t.
    let a : ◌≡◌ {A = ℕ} (cond (p n) 1 0) 1 = cond-true (p n) 1 0 t in
    ⊎_elim (λ (s : y ≡ n). ap p s ∙ t) (λ ne. passing_all p n (omega arith) y (omega (arith, λ (s : y ≡ n). ne s))) (cases_eq y n))
    (λ f. let a : ◌≡◌ {A = ℕ} (cond (p n) 1 0) 0 = cond-false (p n) 1 0 f in absurd (omega arith))
    (cases_Bool (p n))

-- ---- the test
once_parts : (a x : ℕ) (xs : List ℕ) → below_once a (x ∷ xs) ≡ true → (x < a) × (absent x xs ≡ true) × (below_once a xs ≡ true)
unfolding below_once
once_parts a x xs h =
    let p = and_parts (ltb x a && absent x xs) (below_once a xs) h in
    let q = and_parts (ltb x a) (absent x xs) p.0 in
    (ltb-true x a q.0, q.1, p.1)

once_inside : (a : ℕ) (xs : List ℕ) → below_once a xs ≡ true → (z : ℕ) → z < length xs → get_or xs z 0 < a
once_inside a [] h z l = absurd (omega arith)
once_inside a (x ∷ xs) h zero l = (once_parts a x xs h).0
once_inside a (x ∷ xs) h (suc z) l = once_inside a xs (once_parts a x xs h).2 z (omega arith)

once_apart : (a : ℕ) (xs : List ℕ) → below_once a xs ≡ true → (y z : ℕ) → y < length xs → z < length xs → get_or xs y 0 ≡ get_or xs z 0 → y ≡ z
once_apart a [] h y z l m e = absurd (omega arith)
once_apart a (x ∷ xs) h zero zero l m e = refl
once_apart a (x ∷ xs) h zero (suc z) l m e = absurd (absent_at x xs z (once_parts a x xs h).1 (omega arith) (sym e))
once_apart a (x ∷ xs) h (suc y) zero l m e = absurd (absent_at x xs y (once_parts a x xs h).1 (omega arith) e)
once_apart a (x ∷ xs) h (suc y) (suc z) l m e = ap suc (once_apart a xs (once_parts a x xs h).2 y z (omega arith) (omega arith) e)

-- as many numbers stand in the table as it has entries
once_count : (a : ℕ) (xs : List ℕ) → below_once a xs ≡ true → passing (λ y. not (absent y xs)) a ≡ length xs
once_count a [] h = passing_none a
once_count a (x ∷ xs) h =
    let p = once_parts a x xs h in
    let e = once_count a xs p.2 in
    let m = passing_more (λ y. not (absent y xs)) (λ y. not (not (eqb x y) && absent y xs)) x a p.0
    (not_from_true (absent x xs) p.1)
    (ap (λ b. not (not b && absent x xs)) (eq-eqb x x refl))
    (λ y ne. ap (λ b. not (not b && absent y xs)) (ne_eqb x y (λ s. ne (sym s)))) in
    m ∙ omega arith

tells_sound : (table : List ℕ) → permutes table ≡ true → Permutation (length table) table
unfolding permutes
tells_sound table h =
    record {
      long = refl;
      inside = once_inside (length table) table h;
      once = once_apart (length table) table h;
      everywhere = λ y l.
          present_at y table (not_true' (passing_all (λ y. not (absent y table)) (length table) (once_count (length table) table h) y l));
    }
  where
    not_true' : {b : Bool} → not b ≡ true → b ≡ false
    not_true' {b} e = not-true b e

once_from : (a : ℕ) (xs : List ℕ) → ((z : ℕ) → z < length xs → get_or xs z 0 < a) →
    ((y z : ℕ) → y < length xs → z < length xs → get_or xs y 0 ≡ get_or xs z 0 → y ≡ z) → below_once a xs ≡ true
unfolding below_once
once_from a [] inside once = refl
once_from a (x ∷ xs) inside once =
    and_from (ltb x a && absent x xs) (below_once a xs)
    (and_from (ltb x a) (absent x xs) (lt-ltb x a (inside 0 (omega arith)))
    (absent_from x xs (λ z l e. let s = once 0 (suc z) (omega arith) (omega arith) (sym e) in omega arith)))
    (once_from a xs (λ z l. inside (suc z) (omega arith)) (λ y z l m e. let s = once (suc y) (suc z) (omega arith) (omega arith) e in omega arith))

tells_complete : (table : List ℕ) → Permutation (length table) table → permutes table ≡ true
unfolding permutes
tells_complete table p = once_from (length table) table p.inside p.once

pub tells : (table : List ℕ) → Tells table
tells table = record { sound = tells_sound table; complete = tells_complete table }

-- ---- one step of the test
module _ (a x : ℕ) (xs : List ℕ) where
  pub once_high : a ≤ x → below_once a (x ∷ xs) ≡ false
  unfolding below_once
  once_high l = and_left (ltb x a && absent x xs) _ (and_left (ltb x a) _ (le-ltb x a l))

  pub once_again : absent x xs ≡ false → below_once a (x ∷ xs) ≡ false
  unfolding below_once
  once_again e = and_left (ltb x a && absent x xs) _ (and_right (ltb x a) _ e)

  pub once_on : x < a → absent x xs ≡ true → below_once a (x ∷ xs) ≡ below_once a xs
  unfolding below_once
  once_on l e = ap (λ b. b && below_once a xs) (and_from (ltb x a) _ (lt-ltb x a l) e)

pub once_end : (a : ℕ) → below_once a [] ≡ true
unfolding below_once
once_end a = refl

-- whether a list has a number
pub stands : (y : ℕ) (xs : List ℕ) → list_any (λ x. eqb x y) xs ≡ not (absent y xs)
stands y [] = refl
stands y (x ∷ xs) =
    ⊎_elim
    (λ t. ap (λ b. b || list_any (λ z. eqb z y) xs) t ∙ ap (λ b. not (not b && absent y xs)) (sym t))
    (λ f. ap (λ b. b || list_any (λ z. eqb z y) xs) f ∙ stands y xs ∙ ap (λ b. not (not b && absent y xs)) (sym f))
    (cases_Bool (eqb x y))
