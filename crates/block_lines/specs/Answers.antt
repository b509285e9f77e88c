-- What a line is answered, and what it holds then. Assumes nothing.
--   answer_to  the answer to a request
--   answer_of  the answer to a line
--   left_of    what the line holds after its answer: a message is read where it stands
--   Asks       a line asks for sixteen bytes, in its words
--   Answered   each line is answered what it asks for
use Rattle.std.specs.Prelude.{◌≡◌, ℕ, ◌-◌, true, List, [], ◌∷◌, ◌++◌, length, take, drop, Some, None, Ok, Err, codes, Option, Result, ◌≢◌}
use Rattle.std.specs.Option.{ok_or}
use Rattle.text.specs.declared.hex.Letters.TheVariants.{Either}
use Rattle.text.specs.Words.{words_of}
use Rattle.text.specs.Hex.{bytes_of, block_of, number_of, in_place}
use Rattle.block_cipher.specs.Aes.{cipher}
use Rattle.block_cipher.specs.Cmac.{cmac}
use Rattle.block_cipher.specs.Counter.{counter_block}
use Rattle.block_lines.specs.declared.unreadable.Unreadable.{Unreadable}
use Rattle.block_lines.specs.declared.unreadable.Unreadable.TheVariants.{Message}
use Rattle.block_lines.specs.declared.request.Request.{Request}
use Rattle.block_lines.specs.declared.request.Request.TheVariants.{Encrypt, Counter, Cmac}
use Rattle.block_lines.specs.Requests.{and_then, silent, request_of}

-- the last n bytes of a line
abbrev pub last_of : ℕ → List ℕ → List ℕ
last_of n line = drop (length line - n) line

-- the tag of the message that digits spell
abbrev pub tag_of : List ℕ → List ℕ → Result (List ℕ) Unreadable
tag_of key digits = and_then (ok_or (bytes_of Either digits) Message) (λ message. Ok (cmac key message))

unfoldable pub answer_to : List ℕ → Request → Result (Option (List ℕ)) Unreadable
answer_to line (Encrypt key block) = Ok (Some (cipher key block))
answer_to line (Counter key iv i) = Ok (Some (counter_block key iv i))
answer_to line (Cmac key n) = and_then (tag_of key (last_of n line)) (λ tag. Ok (Some tag))

-- nothing is answered nothing
abbrev pub reply : List ℕ → Option Request → Result (Option (List ℕ)) Unreadable
reply line None = Ok None
reply line (Some q) = answer_to line q

unfoldable pub answer_of : List ℕ → Result (Option (List ℕ)) Unreadable
answer_of line = and_then (request_of line) (reply line)

unfoldable pub left_by : List ℕ → Result (Option Request) Unreadable → List ℕ
left_by line (Err why) = line
left_by line (Ok None) = line
left_by line (Ok (Some (Encrypt key block))) = line
left_by line (Ok (Some (Counter key iv i))) = line
left_by line (Ok (Some (Cmac key n))) =
    take (length line - n) line ++ in_place (last_of n line) (bytes_of Either (last_of n line))

unfoldable pub left_of : List ℕ → List ℕ
left_of line = left_by line (request_of line)

-- a line asks for sixteen bytes, by its words; digits are read in either case
pub data Asks (line out : List ℕ) : Type 0 where
  -- `encrypt KEY BLOCK`: the encryption of the block
  encrypt : (k b key block : List ℕ) → words_of line ≡ codes "encrypt" ∷ k ∷ b ∷ []
      → block_of Either k ≡ Some key → block_of Either b ≡ Some block
      → out ≡ cipher key block → Asks line out
  -- `counter KEY IV INDEX`: the encryption of IV + INDEX
  counter : (k v i key iv : List ℕ) (index : ℕ) → words_of line ≡ codes "counter" ∷ k ∷ v ∷ i ∷ []
      → block_of Either k ≡ Some key → block_of Either v ≡ Some iv → number_of Either i ≡ Some index
      → out ≡ counter_block key iv index → Asks line out
  -- `cmac KEY MESSAGE`: the tag of the message
  tag : (k m key message : List ℕ) → words_of line ≡ codes "cmac" ∷ k ∷ m ∷ [] → (m ≢ [])
      → block_of Either k ≡ Some key → bytes_of Either m ≡ Some message
      → out ≡ cmac key message → Asks line out
  -- `cmac KEY`: the tag of the empty message
  tag_of_nothing : (k key : List ℕ) → words_of line ≡ codes "cmac" ∷ k ∷ []
      → block_of Either k ≡ Some key
      → out ≡ cmac key [] → Asks line out

pub record Answered : Type 0 where
  -- a line is answered the bytes that it asks for
  pub each : (line out : List ℕ) → Asks line out → answer_of line ≡ Ok (Some out)
  -- and no line is answered others
  pub only : (line out : List ℕ) → answer_of line ≡ Ok (Some out) → Asks line out
  -- an empty line and a comment are answered nothing, and no other line is
  pub skips : (line : List ℕ) → silent line ≡ true → answer_of line ≡ Ok None
  pub skips_only : (line : List ℕ) → answer_of line ≡ Ok None → silent line ≡ true
