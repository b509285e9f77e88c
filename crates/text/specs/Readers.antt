-- A reader by the words that it has still to hand out. Assumes nothing.
--   words_left  those words
--   first_of    the first of a list, if there is one
--   rest_of     a list without its first
use Rattle.std.specs.Prelude.{ℕ, List, [], ◌∷◌, Some, None, Option}
use Rattle.std.specs.Borrow.{Bor}
use Rattle.text.specs.declared.reader.Reader.{Reader}
use Rattle.text.specs.Words.{words_of}

abbrev pub words_in : Option (Bor (List ℕ)) → List (List ℕ)
words_in None = []
words_in (Some line) = words_of line.now

unfoldable pub words_left : Reader → List (List ℕ)
words_left r = words_in r.left

abbrev pub first_of : List (List ℕ) → Option (List ℕ)
first_of [] = None
first_of (w ∷ ws) = Some w

abbrev pub rest_of : List (List ℕ) → List (List ℕ)
rest_of [] = []
rest_of (w ∷ ws) = ws
