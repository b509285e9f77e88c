-- What a walk is held to. Assumes nothing.
--   FirstAllowed  an image is the first allowed one on the cycle, few swaps away
--   Walks         a walk leads to the first allowed code, each way, and undoes itself
--   next_digit    a cipher that takes each digit to the next, and 9 to 0
--   Examples      what a walk over it does, with the rule that a code does not begin with 0
use Rattle.std.specs.Prelude.{◌≡◌, ℕ, suc, ◌+◌, ◌%◌, ◌<◌, ◌≤◌, Bool, true, false, List, [], ◌∷◌, map, Some, None}
use Rattle.alphabets.specs.declared.alphabet.Alphabet.TheVariants.{Decimal, Hex}
use Rattle.formats.specs.Forms.{Form, form_of}
use Rattle.ciphers.specs.Meanings.{Meaning, Free, Laws}
use Rattle.rules.specs.Rules.{leads_nonzero}
use Rattle.walk.specs.Walks.{Allowed, times, denied_count, walking}

pub record FirstAllowed (go : List ℕ → List ℕ) (says : List ℕ → Bool) (most : ℕ) (c image : List ℕ) : Type 0 where
  -- the swaps after the first, at most so many
  pub more : ℕ
  pub few : more ≤ most
  -- so many swaps below lead to the image, and the rule says yes to it
  pub reached : image ≡ times go (suc more) c
  pub allowed : says image ≡ true
  -- and no to everything on the way
  pub denied : (k : ℕ) → k < more → says (times go (suc k) c) ≡ false

-- of every cipher that keeps the laws, and every set of codes that a rule can say yes to
pub record Walks (m : Meaning) (allowed : Allowed) : Type 0 where
  pub forward : (f : Form) (run c : List ℕ) → (walking m allowed).taken f ≡ true → Free (walking m allowed) f c →
      FirstAllowed (m.forward f run) (allowed f) (denied_count m allowed f) c ((walking m allowed).forward f run c)
  pub backward : (f : Form) (run c : List ℕ) → (walking m allowed).taken f ≡ true → Free (walking m allowed) f c →
      FirstAllowed (m.backward f run) (allowed f) (denied_count m allowed f) c ((walking m allowed).backward f run c)
  -- each map keeps the codes that may be swapped, and undoes the other
  pub lawful : Laws (walking m allowed)

abbrev pub next_digit : Meaning
next_digit = record {
  taken = λ f. true;
  barred = λ f c. None;
  forward = λ f run c. map (λ x. (x + 1) % 10) c;
  backward = λ f run c. map (λ x. (x + 9) % 10) c;
}

abbrev pub next_nonzero : Meaning
next_nonzero = walking next_digit leads_nonzero

abbrev pub digit : ℕ → Form
digit rounds = form_of Decimal 1 rounds

pub record Examples (run : List ℕ) (rounds : ℕ) : Type 0 where
  pub one_denied : denied_count next_digit leads_nonzero (digit rounds) ≡ 1
  pub nine : next_nonzero.forward (digit rounds) run (9 ∷ []) ≡ 1 ∷ []
  pub eight : next_nonzero.forward (digit rounds) run (8 ∷ []) ≡ 9 ∷ []
  pub back_to_nine : next_nonzero.backward (digit rounds) run (1 ∷ []) ≡ 9 ∷ []
  pub zero_barred : next_nonzero.barred (digit rounds) (0 ∷ []) ≡ Some 0
  -- 16^15 codes are at most 2^63, and 16^16 are more
  pub fifteen_hex : next_nonzero.taken (form_of Hex 15 rounds) ≡ true
  pub sixteen_hex : next_nonzero.taken (form_of Hex 16 rounds) ≡ false
  pub eighteen_digits : next_nonzero.taken (form_of Decimal 18 rounds) ≡ true
  pub nineteen_digits : next_nonzero.taken (form_of Decimal 19 rounds) ≡ false
