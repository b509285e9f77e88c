-- All the codes of a form, one after the other. Assumes nothing.
--   In        an element of a list
--   Once      a list with no element twice
--   fronted   each symbol below a number in front of each string of a list
--   strings   the strings of a length over the symbols below a radix
--   codes_of  the codes of a form
--   AllCodes  the list holds the codes of the form, each once, and nothing else
use Rattle.std.specs.Prelude.{◌≡◌, ℕ, zero, suc, ◌^◌, ◌⊎◌, List, [], ◌∷◌, ◌++◌, map, length}
use Rattle.alphabets.specs.Alphabets.{radix_of}
use Rattle.formats.specs.Codes.{Code}
use Rattle.formats.specs.Forms.{Form}

abbrev pub In : {X : Type 0} → X → List X → Type 0
In x [] = ⊥
In x (y ∷ ys) = (x ≡ y) ⊎ In x ys

abbrev pub Once : {X : Type 0} → List X → Type 0
Once [] = Unit {0}
Once (x ∷ xs) = (In x xs → ⊥) × Once xs

unfoldable pub fronted : ℕ → List (List ℕ) → List (List ℕ)
fronted zero rest = []
fronted (suc s) rest = fronted s rest ++ map (λ c. s ∷ c) rest

unfoldable pub strings : ℕ → ℕ → List (List ℕ)
strings a zero = [] ∷ []
strings a (suc n) = fronted a (strings a n)

unfoldable pub codes_of : Form → List (List ℕ)
codes_of f = strings (radix_of f.alphabet) f.len

pub record AllCodes (f : Form) : Type 0 where
  -- each code is listed, and what is listed is a code
  pub every : (c : List ℕ) → Code f c → In c (codes_of f)
  pub only : (c : List ℕ) → In c (codes_of f) → Code f c
  -- none is listed twice
  pub once : Once (codes_of f)
  -- so there are this many
  pub count : length (codes_of f) ≡ radix_of f.alphabet ^ f.len
