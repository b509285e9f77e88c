-- Looking for an entry that fails a test, and a loop that changes each entry. Assumes nothing.
use Rattle.std.proofs.Common.{◌≡◌, ℕ, suc, ◌+◌, ◌<◌, Bool, true, false, cond, not, List, [], ◌∷◌, ◌++◌, map, length, get_or, take, drop, set, Some, refl, ap, ◌∙◌, add-one}
use Rattle.std.specs.List.{position_from}
use Rattle.std.proofs.lemmas.List.Edits.{map_over_more}
use Rattle.std.proofs.lemmas.List.{get_or_default}
use Rattle.formats.specs.Codes.{first_not}

-- the first entry that fails a test is the first that passes its opposite
pub first_failing : (f : ℕ → Bool) (i : ℕ) (xs : List ℕ) → position_from (λ x. not (f x)) i xs ≡ first_not f i xs
first_failing f i [] = refl
first_failing f i (x ∷ xs) =
    elim (f x) as (λ b. cond (not b) (Some i) (position_from (λ y. not (f y)) (i + 1) xs) ≡ cond b (first_not f (suc i) xs) (Some i)) [
      | true ↦ ap (λ n. position_from (λ y. not (f y)) n xs) (add-one i) ∙ first_failing f (suc i) xs
      | false ↦ refl
    ]

-- the loop that changes each entry in place
module _ (f : ℕ → ℕ) (xs ys : List ℕ) (i : ℕ) where
  pub one_more : i < length xs → i < length ys → ys ≡ map f (take i xs) ++ drop i xs → (x : ℕ) → x ≡ f (get_or ys i 0) → set ys i x ≡ map f (take (i + 1) xs) ++ drop (i + 1) xs
  one_more h k inv x e =
      ap (set ys i) e ∙ map_over_more f xs ys i (get_or ys i 0) h inv (get_or_default ys i 0 (get_or ys i 0) k)
