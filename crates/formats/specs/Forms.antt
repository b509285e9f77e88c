-- Forms: what a shape is as plain data, the limits that it keeps, and how one is made. Assumes nothing.
--   Form                     an alphabet, a length and a number of rounds
--   form_of                  the form of three parts
--   least_of                 the least number of rounds of an alphabet and a length
--   default_rounds           the rounds where none are named
--   layers_of                the layers that the rounds make: a layer for each symbol in each round
--   most_layers              the most layers that a length may have
--   code_count               how many codes there are
--   counted                  the same number, where it is not above the most that is asked for
--   Exists                   the limits, all kept
--   length_fits, rounds_fit  the tests of them
--   remade                   the answer to a form's three parts
--   made                     the answer to an alphabet, a length and rounds that may be named
use Rattle.std.specs.Prelude.{◌≡◌, ℕ, ◌*◌, ◌^◌, ◌≤◌, Bool, cond, ◌&&◌, Some, None, Ok, Err, Option, Result, ◌==◌, nat_le}
use Rattle.alphabets.specs.declared.alphabet.Alphabet.{Alphabet}
use Rattle.faults.specs.declared.fault.Cause.TheVariants.{Length, Rounds}
use Rattle.faults.specs.declared.fault.Fault.{Fault}
use Rattle.alphabets.specs.Alphabets.{radix_of}
use Rattle.faults.specs.Faults.{own}
use Rattle.formats.specs.LeastRounds.{least}

pub record Form : Type 0 where
  pub alphabet : Alphabet
  pub len : ℕ
  pub rounds : ℕ

abbrev pub form_of : Alphabet → ℕ → ℕ → Form
form_of a n r = record { alphabet = a; len = n; rounds = r }

abbrev pub least_of : Alphabet → ℕ → ℕ
least_of a n = least (radix_of a) n

abbrev pub default_rounds : Alphabet → ℕ → ℕ
default_rounds a n = least_of a n

abbrev pub layers_of : Form → ℕ
layers_of f = f.rounds * f.len

-- a code of one symbol has no layers
abbrev pub most_layers : ℕ → ℕ
most_layers n = cond (n == 1) 0 2048

-- each of the symbols at each place
unfoldable pub code_count : Form → ℕ
code_count f = radix_of f.alphabet ^ f.len

abbrev pub counted : Form → ℕ → Option ℕ
counted f most = cond (nat_le (code_count f) most) (Some (code_count f)) None

pub record Exists (f : Form) : Type 0 where
  -- a length from 1 to 32
  pub some : 1 ≤ f.len
  pub short : f.len ≤ 32
  -- no rounds at length 1
  pub alone : f.len ≡ 1 → f.rounds ≡ 0
  -- no fewer rounds than the least number
  pub enough : least_of f.alphabet f.len ≤ f.rounds
  -- at most 2,048 layers
  pub few : layers_of f ≤ 2048

abbrev pub length_fits : ℕ → Bool
length_fits n = nat_le 1 n && nat_le n 32

abbrev pub rounds_fit : Form → Bool
rounds_fit f = nat_le (least_of f.alphabet f.len) f.rounds && nat_le (layers_of f) (most_layers f.len)

unfoldable pub remade : Form → Result Form Fault
remade f = cond (length_fits f.len) (cond (rounds_fit f) (Ok f) (Err (own Rounds))) (Err (own Length))

-- rounds are never named at length 1, not even 0
abbrev pub made : Alphabet → ℕ → Option ℕ → Result Form Fault
made a n None = remade (form_of a n (default_rounds a n))
made a n (Some r) = cond (n == 1) (Err (own Rounds)) (remade (form_of a n r))
