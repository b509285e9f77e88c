-- What codes and their texts are held to. Assumes nothing.
--   First         the place that a check tells is the first at which its test fails
--   BackAndForth  texts and codes of a form go one to one, and the checks tell them
use Rattle.std.specs.Prelude.{◌≡◌, ℕ, ◌<◌, Bool, true, false, List, length, Some, None, Ok, slice_index}
use Rattle.formats.specs.Codes.{Code, Text, first_not, stray_byte, stray_symbol, as_symbols, as_bytes, code_verdict, text_verdict}
use Rattle.formats.specs.Forms.{Form}

pub record First (test : ℕ → Bool) (xs : List ℕ) : Type 0 where
  pub nowhere : first_not test 0 xs ≡ None → (k : ℕ) → k < length xs → test (slice_index xs k) ≡ true
  pub within : (i : ℕ) → first_not test 0 xs ≡ Some i → i < length xs
  pub fails : (i : ℕ) → first_not test 0 xs ≡ Some i → test (slice_index xs i) ≡ false
  pub passes_before : (i : ℕ) → first_not test 0 xs ≡ Some i → (k : ℕ) → k < i → test (slice_index xs k) ≡ true

pub record BackAndForth (f : Form) : Type 0 where
  -- a text turns into a code, and that code into the same text
  pub symbols : (text : List ℕ) → Text f text → Code f (as_symbols f.alphabet text)
  pub same_text : (text : List ℕ) → Text f text → as_bytes f.alphabet (as_symbols f.alphabet text) ≡ text
  -- a code turns into a text, and that text into the same code
  pub bytes : (code : List ℕ) → Code f code → Text f (as_bytes f.alphabet code)
  pub same_code : (code : List ℕ) → Code f code → as_symbols f.alphabet (as_bytes f.alphabet code) ≡ code
  -- neither is refused
  pub text_turns : (text : List ℕ) → Text f text → stray_byte f.alphabet text ≡ None
  pub code_turns : (code : List ℕ) → Code f code → stray_symbol f.alphabet code ≡ None
  -- the checks pass what is a code, or a text of one, and nothing else
  pub code_passes : (code : List ℕ) → Code f code → code_verdict f code ≡ Ok tt
  pub only_codes : (code : List ℕ) → code_verdict f code ≡ Ok tt → Code f code
  pub text_passes : (text : List ℕ) → Text f text → text_verdict f text ≡ Ok tt
  pub only_texts : (text : List ℕ) → text_verdict f text ≡ Ok tt → Text f text
