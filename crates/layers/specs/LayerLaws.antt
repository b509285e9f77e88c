-- What layers are held to. Assumes nothing.
--   Shortens     what the form of the rest is, and that it exists
--   KeepsPrefix  the first symbols stay, and the cipher below swaps the rest
--   Prefers      the first of two ciphers that takes a form has it to itself
--   Examples     some forms of rests, and a code
use Rattle.std.specs.Prelude.{◌≡◌, ℕ, ◌-◌, ◌<◌, ◌≤◌, true, false, List, [], ◌∷◌, length, take, drop}
use Rattle.alphabets.specs.declared.alphabet.Alphabet.TheVariants.{Decimal}
use Rattle.formats.specs.Codes.{Code}
use Rattle.formats.specs.Forms.{Form, Exists, form_of, least_of}
use Rattle.ciphers.specs.Meanings.{Meaning}
use Rattle.ciphers.specs.Swaps.{barred_past}
use Rattle.layers.specs.Firsts.{preferring}
use Rattle.layers.specs.Keeps.{shorter, keeping}

pub record Shortens (p : ℕ) (f : Form) : Type 0 where
  pub alphabet : (shorter p f).alphabet ≡ f.alphabet
  pub len : (shorter p f).len ≡ f.len - p
  -- from two symbols on there are no fewer rounds than were given, and no fewer than the least number
  pub given : 2 ≤ f.len - p → f.rounds ≤ (shorter p f).rounds
  pub enough : 2 ≤ f.len - p → least_of f.alphabet (f.len - p) ≤ (shorter p f).rounds
  -- where the given ones are enough they stand, and otherwise the least number does
  pub stand : 2 ≤ f.len - p → least_of f.alphabet (f.len - p) ≤ f.rounds → (shorter p f).rounds ≡ f.rounds
  pub raised : 2 ≤ f.len - p → f.rounds ≤ least_of f.alphabet (f.len - p) → (shorter p f).rounds ≡ least_of f.alphabet (f.len - p)
  -- one symbol has no rounds
  pub single : f.len - p ≡ 1 → (shorter p f).rounds ≡ 0
  -- where the form exists and is longer than p, so does the shorter one
  pub exists : Exists f → p < f.len → Exists (shorter p f)

pub record KeepsPrefix (p : ℕ) (m : Meaning) : Type 0 where
  -- the first p symbols of an image are those of the code
  pub front : (f : Form) (run c : List ℕ) → p ≤ length c → take p ((keeping p m).forward f run c) ≡ take p c
  pub front_back : (f : Form) (run c : List ℕ) → p ≤ length c → take p ((keeping p m).backward f run c) ≡ take p c
  -- and the rest is the image of the rest
  pub rest : (f : Form) (run c : List ℕ) → p ≤ length c → drop p ((keeping p m).forward f run c) ≡ m.forward (shorter p f) run (drop p c)
  pub rest_back : (f : Form) (run c : List ℕ) → p ≤ length c → drop p ((keeping p m).backward f run c) ≡ m.backward (shorter p f) run (drop p c)
  -- what is taken is longer than p
  pub longer : (f : Form) → (keeping p m).taken f ≡ true → p < f.len
  -- the rest of a code is a code
  pub codes : (f : Form) (c : List ℕ) → Code f c → Code (shorter p f) (drop p c)

pub record Prefers (l r : Meaning) : Type 0 where
  -- where the left one takes a form it bars and swaps, whatever the right one means
  pub left_takes : (f : Form) → l.taken f ≡ true → (preferring l r).taken f ≡ true
  pub left_bars : (f : Form) (c : List ℕ) → l.taken f ≡ true → (preferring l r).barred f c ≡ barred_past (l.barred f c)
  pub left_swaps : (f : Form) (run c : List ℕ) → l.taken f ≡ true → (preferring l r).forward f run c ≡ l.forward f run c
  pub left_back : (f : Form) (run c : List ℕ) → l.taken f ≡ true → (preferring l r).backward f run c ≡ l.backward f run c
  -- where it does not, the right one takes, bars and swaps
  pub right_takes : (f : Form) → l.taken f ≡ false → (preferring l r).taken f ≡ r.taken f
  pub right_bars : (f : Form) (c : List ℕ) → l.taken f ≡ false → (preferring l r).barred f c ≡ barred_past (r.barred f c)
  pub right_swaps : (f : Form) (run c : List ℕ) → l.taken f ≡ false → (preferring l r).forward f run c ≡ r.forward f run c
  pub right_back : (f : Form) (run c : List ℕ) → l.taken f ≡ false → (preferring l r).backward f run c ≡ r.backward f run c

pub record Examples (m : Meaning) (run : List ℕ) : Type 0 where
  -- seven digits ask for more rounds than eight
  pub more : shorter 1 (form_of Decimal 8 42) ≡ form_of Decimal 7 45
  pub as_many : shorter 4 (form_of Decimal 32 64) ≡ form_of Decimal 28 64
  pub none : shorter 1 (form_of Decimal 2 83) ≡ form_of Decimal 1 0
  -- over a cipher that takes 4 to 5, 44 goes to 45 where the first digit stays
  pub by_one : m.forward (form_of Decimal 1 0) run (4 ∷ []) ≡ 5 ∷ [] → (keeping 1 m).forward (form_of Decimal 2 83) run (4 ∷ 4 ∷ []) ≡ 4 ∷ 5 ∷ []
