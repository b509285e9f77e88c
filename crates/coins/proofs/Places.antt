-- Places: where a number stands in a table. Assumes nothing.
use Rattle.std.proofs.Common.{◌≡◌, ℕ, zero, suc, ◌+◌, ◌<◌, ◌≤◌, eqb, List, [], ◌∷◌, length, get_or, take, Some, None, sym, refl, ap, ◌∙◌, ⊎_elim, add-zero, arith}
use Rattle.std.specs.List.{slice_get}
use Rattle.std.proofs.lemmas.List.{get_or-take, length-take-le}
use Rattle.std.proofs.lemmas.Option.{slice_get-get_or, slice_get_past}
use Rattle.std.proofs.lemmas.Bool.{cond-true, cond-false, eq-eqb, ne_eqb, cases_lt}
use Rattle.coins.specs.Boxes.{Undoes}
use Rattle.coins.specs.Sboxes.{place_from, place_of}

place_found : (i y : ℕ) (table : List ℕ) (x : ℕ) → x < length table → get_or table x 0 ≡ y →
    ((z : ℕ) → z < x → get_or table z 0 ≡ y → ⊥) → place_from i y table ≡ Some (i + x)
place_found i y [] x h e first = absurd (omega arith)
place_found i y (t ∷ ts) zero h e first = cond-true (eqb t y) (Some i) _ (eq-eqb t y e) ∙ ap Some (sym (add-zero i))
place_found i y (t ∷ ts) (suc x) h e first =
    cond-false (eqb t y) (Some i) _ (ne_eqb t y (first 0 (omega arith))) ∙
    place_found (suc i) y ts x (omega arith) e (λ z l. first (suc z) (omega arith)) ∙ ap Some (omega arith)

place_none : (i y : ℕ) (table : List ℕ) → ((z : ℕ) → z < length table → get_or table z 0 ≡ y → ⊥) → place_from i y table ≡ None
place_none i y [] no_place = refl
place_none i y (t ∷ ts) no_place =
    cond-false (eqb t y) (Some i) _ (ne_eqb t y (no_place 0 (omega arith))) ∙ place_none (suc i) y ts (λ z l. no_place (suc z) (omega arith))

-- a box's table, as the first part of a longer one
module _ (a : ℕ) (table : List ℕ) (long : a ≤ length table) where
  module _ (back : List ℕ) (there : Undoes a table back) (again : Undoes a back table) where
    -- the inverse finds the place
    pub place_at : (y : ℕ) → y < a → Some (get_or back y 0) ≡ place_of y (take a table)
    place_at y h =
        let l = length-take-le a table long in
        let r = again y h in
        let x = get_or back y 0 in
        sym (place_found 0 y (take a table) x (omega (arith, r.0)) (get_or-take a table x 0 r.0 ∙ r.1)
        (λ z m e.
        let n : z < a = omega (arith, r.0) in
        let f : get_or table z 0 ≡ y = sym (get_or-take a table z 0 n) ∙ e in
        let g : z ≡ get_or back y 0 = sym (there z n).1 ∙ ap (λ v. get_or back v 0) f in
        omega arith)
        ∙ ap Some (omega arith))

    pub place_past : (y : ℕ) → a ≤ y → None ≡ place_of y (take a table)
    place_past y h =
        let l = length-take-le a table long in
        sym (place_none 0 y (take a table) (λ z m e.
        let n : z < a = omega arith in
        let f : get_or table z 0 ≡ y = sym (get_or-take a table z 0 n) ∙ e in
        omega (arith, (there z n).0)))

    -- so the inverse table is a look for the place
    pub place_told : (y : ℕ) → a ≤ length back → slice_get (take a back) y ≡ place_of y (take a table)
    place_told y l =
        let m = length-take-le a back l in
        ⊎_elim
        (λ h. slice_get-get_or (take a back) y 0 (omega arith) ∙ ap Some (get_or-take a back y 0 h) ∙ place_at y h)
        (λ h. slice_get_past (take a back) y (omega arith) ∙ place_past y h)
        (cases_lt y a)
