-- A block of bytes, cut into lines: a line ends at the first LF. Assumes nothing.
--   cut     the first line of a block and what follows its LF, where a line ends in the block
--   line    that line
--   head    the first line; all of the block where no line ends in it
--   beyond  how many bytes follow that and its LF
use Rattle.std.specs.Prelude.{ℕ, cond, List, [], ◌∷◌, ◌++◌, length, Some, None, Option, ◌==◌}
use Rattle.std.specs.Option.{option_map, unwrap_or}
use Rattle.printing.specs.Replies.{line_feed}

-- a text in front of the first line
abbrev pub after : List ℕ → List ℕ × List ℕ → List ℕ × List ℕ
after text p = (text ++ p.0, p.1)

unfoldable pub cut : List ℕ → Option (List ℕ × List ℕ)
cut [] = None
cut (b ∷ bs) = cond (b == line_feed) (Some ([], bs)) (option_map (after (b ∷ [])) (cut bs))

abbrev pub line : List ℕ → Option (List ℕ)
line block = option_map (λ p. p.0) (cut block)

abbrev pub head : List ℕ → List ℕ
head block = unwrap_or (line block) block

abbrev pub beyond : List ℕ → ℕ
beyond block = unwrap_or (option_map (λ p. length p.1) (cut block)) 0
