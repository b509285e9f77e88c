-- The test of run names tells them. Assumes nothing.
use Rattle.std.proofs.Common.{◌≡◌, ℕ, ◌≤◌, true, ◌&&◌, leb, List, [], ◌∷◌, length, refl}
use Rattle.std.proofs.lemmas.Bool.{le-leb, leb-true, and_parts, and_from}
use Rattle.std.specs.List.{AllByRecursion, list_all}
use Rattle.alphabets.specs.RunNames.{printable, legal, Tells}

-- the test of run names tells them
shown_all : (name : List ℕ) → list_all printable name ≡ true → AllByRecursion (λ b. (33 ≤ b) × (b ≤ 126)) name
shown_all [] e = tt
shown_all (b ∷ bs) e =
    let both = and_parts (printable b) (list_all printable bs) e in
    let parts = and_parts (leb 33 b) (leb b 126) both.0 in
    ((leb-true 33 b parts.0, leb-true b 126 parts.1), shown_all bs both.1)

all_shown : (name : List ℕ) → AllByRecursion (λ b. (33 ≤ b) × (b ≤ 126)) name → list_all printable name ≡ true
all_shown [] all = refl
all_shown (b ∷ bs) all =
    and_from (printable b) (list_all printable bs) (and_from (leb 33 b) (leb b 126) (le-leb 33 b all.0.0) (le-leb b 126 all.0.1)) (all_shown bs all.1)

pub tells : (name : List ℕ) → Tells name
unfolding legal
tells name =
    record {
      passes = λ is. and_from _ _ (and_from _ _ (le-leb 1 (length name) is.some) (le-leb (length name) 32 is.short)) (all_shown name is.shown);
      only = λ e.
          let both = and_parts (leb 1 (length name) && leb (length name) 32) (list_all printable name) e in
          let ends = and_parts (leb 1 (length name)) (leb (length name) 32) both.0 in
          record { some = leb-true 1 (length name) ends.0; short = leb-true (length name) 32 ends.1; shown = shown_all name both.1 };
    }
