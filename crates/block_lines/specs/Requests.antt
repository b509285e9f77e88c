-- What a line asks for: its words are read from left to right, and the first thing that is wrong is told.
-- Assumes nothing.
--   present_in  a word that is there and not empty
--   command_in  a command's name
--   block_in    the sixteen bytes of a word
--   number_in   the number of a word
--   digits_in   how many digits of bytes a word is; no word is none
--   ended       there is no word more
--   silent      a line that asks for nothing: empty, or with # first
--   words_ask   what words ask for
--   request_of  what a line asks for, if anything
use Rattle.std.specs.Prelude.{ℕ, Bool, true, cond, List, [], ◌∷◌, length, is_some, Some, None, Ok, Err, codes, Option, Result, ◌==◌}
use Rattle.std.specs.Option.{ok_or}
use Rattle.std.specs.Str.{bytes_eq}
use Rattle.text.specs.declared.hex.Letters.TheVariants.{Either}
use Rattle.text.specs.Words.{words_of}
use Rattle.text.specs.Readers.{first_of, rest_of}
use Rattle.text.specs.Hex.{block_of, bytes_of, number_of}
use Rattle.block_lines.specs.declared.unreadable.Unreadable.{Unreadable}
use Rattle.block_lines.specs.declared.unreadable.Unreadable.TheVariants as why
use Rattle.block_lines.specs.declared.request.Command.{Command}
use Rattle.block_lines.specs.declared.request.Command.TheVariants as command
use Rattle.block_lines.specs.declared.request.Request.{Request}
use Rattle.block_lines.specs.declared.request.Request.TheVariants.{Encrypt, Counter, Cmac}

-- f of what was read, or why nothing was
abbrev pub and_then : {A B : Type 0} → Result A Unreadable → (A → Result B Unreadable) → Result B Unreadable
and_then (Ok x) f = f x
and_then (Err w) f = Err w

-- f of what is there
abbrev pub mapped_ok : {A B : Type 0} → (A → B) → Result A Unreadable → Result B Unreadable
mapped_ok f r = and_then r (λ x. Ok (f x))

abbrev pub present_in : Option (List ℕ) → Result (List ℕ) Unreadable
present_in None = Err why.MissingWord
present_in (Some []) = Err why.EmptyWord
present_in (Some (b ∷ bs)) = Ok (b ∷ bs)

abbrev pub ended : Option (List ℕ) → Result (Unit {0}) Unreadable
ended None = Ok tt
ended (Some []) = Err why.EmptyWord
ended (Some (b ∷ bs)) = Err why.TooManyWords

abbrev pub command_of : List ℕ → Result Command Unreadable
command_of name =
    cond (bytes_eq name (codes "encrypt")) (Ok command.Encrypt)
    (cond (bytes_eq name (codes "counter")) (Ok command.Counter)
    (cond (bytes_eq name (codes "cmac")) (Ok command.Cmac) (Err why.Command)))

abbrev pub command_in : Option (List ℕ) → Result Command Unreadable
command_in w = and_then (present_in w) command_of

abbrev pub block_in : Unreadable → Option (List ℕ) → Result (List ℕ) Unreadable
block_in why_not w = and_then (present_in w) (λ t. ok_or (block_of Either t) why_not)

abbrev pub number_in : Option (List ℕ) → Result ℕ Unreadable
number_in w = and_then (present_in w) (λ t. ok_or (number_of Either t) why.Index)

abbrev pub digits_in : Option (List ℕ) → Result ℕ Unreadable
digits_in None = Ok 0
digits_in (Some w) =
    and_then (present_in (Some w)) (λ t. cond (is_some (bytes_of Either t)) (Ok (length t)) (Err why.Message))

-- `encrypt KEY BLOCK`, after the key
unfoldable pub encrypt_of : List ℕ → List (List ℕ) → Result Request Unreadable
encrypt_of key ws =
    and_then (block_in why.Block (first_of ws)) (λ block. and_then (ended (first_of (rest_of ws))) (λ _. Ok (Encrypt key block)))

-- `counter KEY IV INDEX`, after the key
unfoldable pub counter_of : List ℕ → List (List ℕ) → Result Request Unreadable
counter_of key ws =
    and_then (block_in why.Iv (first_of ws)) (λ iv. and_then (number_in (first_of (rest_of ws))) (λ i. and_then (ended (first_of (rest_of (rest_of ws)))) (λ _. Ok (Counter key iv i))))

-- `cmac KEY MESSAGE`, after the key
unfoldable pub cmac_of : List ℕ → List (List ℕ) → Result Request Unreadable
cmac_of key ws =
    and_then (digits_in (first_of ws)) (λ n. and_then (ended (first_of (rest_of ws))) (λ _. Ok (Cmac key n)))

abbrev pub arguments_of : Command → List ℕ → List (List ℕ) → Result Request Unreadable
arguments_of command.Encrypt key ws = encrypt_of key ws
arguments_of command.Counter key ws = counter_of key ws
arguments_of command.Cmac key ws = cmac_of key ws

-- a command, a key, and what the command takes after it
unfoldable pub words_ask : List (List ℕ) → Result Request Unreadable
words_ask ws =
    and_then (command_in (first_of ws)) (λ c. and_then (block_in why.Key (first_of (rest_of ws))) (λ key. arguments_of c key (rest_of (rest_of ws))))

abbrev pub silent : List ℕ → Bool
silent [] = true
silent (b ∷ bs) = b == 35

unfoldable pub request_of : List ℕ → Result (Option Request) Unreadable
request_of line = cond (silent line) (Ok None) (mapped_ok (λ q. Some q) (words_ask (words_of line)))
