-- One word after another, and what some words in a row give. Assumes nothing.
use Rattle.std.proofs.Common.{◌≡◌, ℕ, Bool, true, false, cond, List, Some, None, Option, refl, ap, ◌∙◌}
use Rattle.std.specs.Option.{option_map}
use Rattle.text.specs.Readers.{first_of, rest_of}

abbrev pub and_then : {A B : Type 0} → Option A → (A → Option B) → Option B
and_then None k = None
and_then (Some x) k = k x

-- g reads the next word, and k goes on with the words after it
abbrev pub then : {A B : Type 0} → (Option (List ℕ) → Option A) → (A → List (List ℕ) → Option B) → List (List ℕ) → Option B
then g k ws = and_then (g (first_of ws)) (λ x. k x (rest_of ws))

module _ {A B : Type 0} (g : Option (List ℕ) → Option A) (k : A → List (List ℕ) → Option B) (ws : List (List ℕ)) where
  pub goes_on : (vs : List (List ℕ)) → vs ≡ rest_of ws → (x : A) → Some x ≡ g (first_of ws) → k x vs ≡ then g k ws
  goes_on vs rest x e = ap (k x) rest ∙ ap (λ o. and_then o (λ y. k y (rest_of ws))) e

  pub stops : None ≡ g (first_of ws) → None ≡ then g k ws
  stops e = ap (λ o. and_then o (λ y. k y (rest_of ws))) e

pub nothing : {A B : Type 0} (o : Option A) → and_then {B = B} o (λ _. None) ≡ None
nothing None = refl
nothing (Some x) = refl

pub built : {A B : Type 0} (f : A → B) (o : Option A) → and_then o (λ x. Some (f x)) ≡ option_map f o
built f None = refl
built f (Some x) = refl

pub either_way : {A : Type 0} (b : Bool) (x : A) → x ≡ cond b x x
either_way true x = refl
either_way false x = refl
