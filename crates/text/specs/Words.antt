-- The words of a line: a word begins at the line's start and after each space, and runs to the next space.
-- Assumes nothing.
--   first_word      the text before the first space
--   later_words     the words that begin after a space
--   words_of        all words; a line with n spaces has n + 1, and some may be empty
--   joined          words with one space between each and the next
--   SplitsAtSpaces  what makes these the words of a line
use Rattle.std.specs.Prelude.{◌≡◌, ℕ, cond, List, [], ◌∷◌, ◌++◌, ◌==◌, ◌≢◌}

-- the byte of a space
abbrev pub space : ℕ
space = 32

unfoldable pub first_word : List ℕ → List ℕ
first_word [] = []
first_word (b ∷ bs) = cond (b == space) [] (b ∷ first_word bs)

unfoldable pub later_words : List ℕ → List (List ℕ)
later_words [] = []
later_words (b ∷ bs) = cond (b == space) (first_word bs ∷ later_words bs) (later_words bs)

unfoldable pub words_of : List ℕ → List (List ℕ)
words_of line = first_word line ∷ later_words line

-- each word with a space before it
abbrev pub spaced : List (List ℕ) → List ℕ
spaced [] = []
spaced (w ∷ ws) = space ∷ (w ++ spaced ws)

abbrev pub joined : List (List ℕ) → List ℕ
joined [] = []
joined (w ∷ ws) = w ++ spaced ws

abbrev pub Spaceless : List ℕ → Type 0
Spaceless [] = Unit {0}
Spaceless (b ∷ bs) = (b ≢ space) × Spaceless bs

abbrev pub EachSpaceless : List (List ℕ) → Type 0
EachSpaceless [] = Unit {0}
EachSpaceless (w ∷ ws) = Spaceless w × EachSpaceless ws

pub record SplitsAtSpaces : Type 0 where
  -- the words with single spaces between them are the line
  pub joins : (line : List ℕ) → joined (words_of line) ≡ line
  -- no word has a space in it
  pub spaceless : (line : List ℕ) → EachSpaceless (words_of line)
  -- no other words do so: one word or more without spaces, once joined, are read as those words
  pub only : (w : List ℕ) (ws : List (List ℕ)) → EachSpaceless (w ∷ ws) → words_of (joined (w ∷ ws)) ≡ w ∷ ws
