-- A layer under which the first symbols of a code stay. Assumes nothing.
--   Keepable        how many symbols may stay
--   shorter_rounds  the rounds of a form at a shorter length
--   shorter         the form of what is left past the symbols that stay
--   keeping         what the layer means, over what the cipher below means
use Rattle.std.specs.Prelude.{ℕ, ◌-◌, ◌≤◌, max, cond, ◌&&◌, ◌++◌, take, drop, ◌==◌, nat_lt}
use Rattle.formats.specs.Forms.{Form, form_of, least_of}
use Rattle.ciphers.specs.Meanings.{Meaning}
use Rattle.ciphers.specs.Swaps.{barred_past}

abbrev pub Keepable : ℕ → Type 0
Keepable p = (1 ≤ p) × (p ≤ 31)

-- the greater of the form's rounds and the length's own least number, and none at length 1
abbrev pub shorter_rounds : Form → ℕ → ℕ
shorter_rounds f n = cond (n == 1) 0 (max f.rounds (least_of f.alphabet n))

-- the same alphabet, and p symbols fewer
unfoldable pub shorter : ℕ → Form → Form
shorter p f = form_of f.alphabet (f.len - p) (shorter_rounds f (f.len - p))

-- it takes a form that is longer than p and whose shorter form is taken below; it bars a code exactly where the
-- rest is barred below, one deeper; and each way the first p symbols stay and the rest is swapped below
abbrev pub keeping : ℕ → Meaning → Meaning
keeping p m = record {
  taken = λ f. nat_lt p f.len && m.taken (shorter p f);
  barred = λ f c. barred_past (m.barred (shorter p f) (drop p c));
  forward = λ f run c. take p c ++ m.forward (shorter p f) run (drop p c);
  backward = λ f run c. take p c ++ m.backward (shorter p f) run (drop p c);
}
