-- The words of a line, as the forms of lines ask for them. Assumes nothing.
--   filled      a word that is not empty
--   all_filled  no word is empty
--   is          a word that is a given text
--   only_byte   the byte of a word of one byte
--   lane_of     the lane that a word names: one digit
--   filled_in   a word that is there and not empty
--   lane_in     the lane of a word that is there
--   ended       there is no word more
use Rattle.std.specs.Prelude.{ℕ, Bool, true, false, ◌&&◌, List, [], ◌∷◌, Some, None, Option}
use Rattle.std.specs.Str.{bytes_eq}
use Rattle.formats.specs.ShapeTexts.{digit_of}

abbrev pub filled : List ℕ → Bool
filled [] = false
filled (b ∷ bs) = true

abbrev pub all_filled : List (List ℕ) → Bool
all_filled [] = true
all_filled (w ∷ ws) = filled w && all_filled ws

abbrev pub is : List ℕ → List ℕ → Bool
is text word = bytes_eq word text

abbrev pub only_byte : List ℕ → Option ℕ
only_byte [] = None
only_byte (b ∷ []) = Some b
only_byte (b ∷ d ∷ more) = None

abbrev pub lane_of : List ℕ → Option ℕ
lane_of [] = None
lane_of (digit ∷ []) = digit_of digit
lane_of (digit ∷ b ∷ more) = None

abbrev pub filled_in : Option (List ℕ) → Option (List ℕ)
filled_in None = None
filled_in (Some []) = None
filled_in (Some (b ∷ bs)) = Some (b ∷ bs)

abbrev pub lane_in : Option (List ℕ) → Option ℕ
lane_in None = None
lane_in (Some word) = lane_of word

abbrev pub ended : Option (List ℕ) → Option (Unit {0})
ended None = Some tt
ended (Some word) = None
