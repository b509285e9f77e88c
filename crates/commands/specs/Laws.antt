-- What the readers of lines are held to. Assumes nothing.
--   ByWords     words with one space between them, in 4,096 bytes at most, are read as those words
--   Readable    some lines and what they spell
--   Unreadable  some lines that spell nothing
use Rattle.std.specs.Prelude.{◌≡◌, ℕ, ◌≤◌, List, [], ◌∷◌, length, Some, None, codes}
use Rattle.alphabets.specs.declared.alphabet.Alphabet.TheVariants.{Decimal}
use Rattle.text.specs.Words.{EachSpaceless, joined}
use Rattle.commands.specs.Commands.{start, end, mask, unmask, restart, read_words, spelled}
use Rattle.commands.specs.Openings.{codebook, network, read_opening, opening}

pub record ByWords : Type 0 where
  pub later : (w : List ℕ) (ws : List (List ℕ)) → EachSpaceless (w ∷ ws) → length (joined (w ∷ ws)) ≤ 4096 → spelled (joined (w ∷ ws)) ≡ read_words (w ∷ ws)
  pub first : (w : List ℕ) (ws : List (List ℕ)) → EachSpaceless (w ∷ ws) → length (joined (w ∷ ws)) ≤ 4096 → opening (joined (w ∷ ws)) ≡ read_opening (w ∷ ws)

pub record Readable : Type 0 where
  pub starts : spelled (codes "S 1 RED7 d01") ≡ Some (start 1 (codes "RED7") (codes "d01"))
  pub ends : spelled (codes "E 8") ≡ Some (end 8)
  pub masks : spelled (codes "M 1 9") ≡ Some (mask 1 (codes "9"))
  pub unmasks : spelled (codes "U 1 1") ≡ Some (unmask 1 (codes "1"))
  pub restarts : spelled (codes "R") ≡ Some restart
  -- 0 and 9 are digits, which the coder refuses
  pub lane_nine : spelled (codes "E 9") ≡ Some (end 9)
  pub book : opening (codes "B d01 0101020408104108") ≡ Some (codebook (codes "d01") (codes "0101020408104108"))
  pub key : opening (codes "F d 000102030405060708090A0B0C0D0E0F") ≡ Some (network Decimal (0 ∷ 1 ∷ 2 ∷ 3 ∷ 4 ∷ 5 ∷ 6 ∷ 7 ∷ 8 ∷ 9 ∷ 10 ∷ 11 ∷ 12 ∷ 13 ∷ 14 ∷ 15 ∷ []))

pub record Unreadable : Type 0 where
  pub nothing : spelled [] ≡ None
  pub small_letter : spelled (codes "m 1 9") ≡ None
  pub space_first : spelled (codes " M 1 9") ≡ None
  pub two_spaces : spelled (codes "M 1  9") ≡ None
  pub space_last : spelled (codes "R ") ≡ None
  pub lane_ten : spelled (codes "M 10 9") ≡ None
  pub too_few : spelled (codes "S 1 RED7") ≡ None
  pub too_many : spelled (codes "E 1 9") ≡ None
  -- a first line later on, and a later line first
  pub book_later : spelled (codes "B d01 00") ≡ None
  pub mask_first : opening (codes "M 1 9") ≡ None
  pub no_coins : opening (codes "B d01 ") ≡ None
  pub odd_digits : opening (codes "B d01 001") ≡ None
  pub small_digits : opening (codes "B d01 0a") ≡ None
  pub short_key : opening (codes "F d 00") ≡ None
  pub unknown_alphabet : opening (codes "F x 000102030405060708090A0B0C0D0E0F") ≡ None
