-- FAST's layers over lists of symbols, and the core that runs them one after the other. Assumes nothing.
--   plus, minus     sums and differences modulo the radix
--   image           a box of a pool at a symbol
--   forward_layer   one layer of the encryption
--   backward_layer  one layer of the decryption
--   core_encrypt    the layers of a list of indices, the first index first
--   core_decrypt    the backward layers, the last index first
--   Permutes        boxes, and their inverses
--   Near            the branch distances of a length
--   LayersUndo      a layer is undone by its backward layer, and the reverse
--   CoreUndoes      so is a list of layers
-- A pool is a list of boxes, and a box the list of its images. The branch distances are w and v.
use Rattle.std.specs.Prelude.{◌≡◌, ℕ, ◌+◌, ◌-◌, ◌%◌, ◌<◌, cond, List, [], ◌∷◌, ◌++◌, length, take, drop, ◌==◌, slice_index, slice_index_or}
use Rattle.std.specs.List.{AllByRecursion}

abbrev pub plus : ℕ → ℕ → ℕ → ℕ
plus a x y = (x + y) % a

abbrev pub minus : ℕ → ℕ → ℕ → ℕ
minus a x y = (x + (a - y)) % a

unfoldable pub image : List (List ℕ) → ℕ → ℕ → ℕ
image boxes i x = slice_index (slice_index_or boxes i []) x

-- at w = 0 nothing is subtracted, and nothing added on the way back
abbrev pub less : ℕ → ℕ → ℕ → ℕ → ℕ
less a w u y = cond (w == 0) u (minus a u y)

abbrev pub more : ℕ → ℕ → ℕ → ℕ → ℕ
more a w u y = cond (w == 0) u (plus a u y)

-- the symbols move one place down, and S(S(x0 + x(l-v)) - xw) comes last, l being the length
unfoldable pub forward_layer : List (List ℕ) → ℕ → ℕ → ℕ → ℕ → List ℕ → List ℕ
forward_layer boxes a w v i x =
    let u = image boxes i (plus a (slice_index x 0) (slice_index x (length x - v))) in
    drop 1 x ++ (image boxes i (less a w u (slice_index x w)) ∷ [])

-- the symbols move one place up, and T(T(y(l-1)) + y(w-1)) - y(l-v-1) comes first, T being the inverse of S
unfoldable pub backward_layer : List (List ℕ) → ℕ → ℕ → ℕ → ℕ → List ℕ → List ℕ
backward_layer inverses a w v i y =
    let u = image inverses i (slice_index y (length y - 1)) in
    minus a (image inverses i (more a w u (slice_index y (w - 1)))) (slice_index y (length y - v - 1)) ∷ take (length y - 1) y

unfoldable pub core_encrypt : List (List ℕ) → ℕ → ℕ → ℕ → List ℕ → List ℕ → List ℕ
core_encrypt boxes a w v [] x = x
core_encrypt boxes a w v (i ∷ is) x = core_encrypt boxes a w v is (forward_layer boxes a w v i x)

unfoldable pub core_decrypt : List (List ℕ) → ℕ → ℕ → ℕ → List ℕ → List ℕ → List ℕ
core_decrypt inverses a w v [] y = y
core_decrypt inverses a w v (i ∷ is) y = backward_layer inverses a w v i (core_decrypt inverses a w v is y)

-- each of the first `count` boxes keeps the symbols, and its inverse undoes it, both ways
pub record Permutes (a count : ℕ) (boxes inverses : List (List ℕ)) : Type 0 where
  pub inside : (i x : ℕ) → i < count → x < a → image boxes i x < a
  pub inside_inverse : (i x : ℕ) → i < count → x < a → image inverses i x < a
  pub there : (i x : ℕ) → i < count → x < a → image inverses i (image boxes i x) ≡ x
  pub back : (i x : ℕ) → i < count → x < a → image boxes i (image inverses i x) ≡ x

-- w symbols ahead and v behind lie within the length
pub record Near (len w v : ℕ) : Type 0 where
  pub ahead : w < len
  pub some : 0 < v
  pub behind : v < len

-- strings of symbols of a length
pub record Symbols (a len : ℕ) (x : List ℕ) : Type 0 where
  pub long : length x ≡ len
  pub each : AllByRecursion (λ s. s < a) x

pub record LayersUndo (a count len w v : ℕ) (boxes inverses : List (List ℕ)) : Type 0 where
  pub forward_stays : (i : ℕ) (x : List ℕ) → i < count → Symbols a len x → Symbols a len (forward_layer boxes a w v i x)
  pub backward_stays : (i : ℕ) (y : List ℕ) → i < count → Symbols a len y → Symbols a len (backward_layer inverses a w v i y)
  pub forward_undone : (i : ℕ) (x : List ℕ) → i < count → Symbols a len x → backward_layer inverses a w v i (forward_layer boxes a w v i x) ≡ x
  pub backward_undone : (i : ℕ) (y : List ℕ) → i < count → Symbols a len y → forward_layer boxes a w v i (backward_layer inverses a w v i y) ≡ y

pub record CoreUndoes (a len w v : ℕ) (boxes inverses : List (List ℕ)) (is : List ℕ) : Type 0 where
  pub encrypt_stays : (x : List ℕ) → Symbols a len x → Symbols a len (core_encrypt boxes a w v is x)
  pub decrypt_stays : (y : List ℕ) → Symbols a len y → Symbols a len (core_decrypt inverses a w v is y)
  pub encrypt_undone : (x : List ℕ) → Symbols a len x → core_decrypt inverses a w v is (core_encrypt boxes a w v is x) ≡ x
  pub decrypt_undone : (y : List ℕ) → Symbols a len y → core_encrypt boxes a w v is (core_decrypt inverses a w v is y) ≡ y
