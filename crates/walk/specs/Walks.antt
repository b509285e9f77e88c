-- Walking the cycle: what a cipher below and a rule mean together. Assumes nothing.
--   Allowed       the codes of each form that a rule says yes to
--   times         a map, a number of times over
--   seek          the first allowed code from a code on, where there is one within a number of swaps
--   denied_open   a code that the rule denies and the cipher below does not bar
--   denied_count  how many codes of a form are such
--   few_codes     a form with at most 2^63 codes
--   barred_by     what the rule denies is barred at depth 0, and after that what is barred below, one deeper
--   sought        the first allowed code from a code on, by a map of the cipher below
--   walked_by     a code swapped once by it, and then on until the rule says yes
--   walking       what the walk means
use Rattle.std.specs.Prelude.{ℕ, zero, suc, ◌^◌, Bool, cond, not, ◌&&◌, List, is_some, Some, count_by, Option, nat_le}
use Rattle.alphabets.specs.Alphabets.{radix_of}
use Rattle.formats.specs.Forms.{Form}
use Rattle.ciphers.specs.Meanings.{Meaning}
use Rattle.ciphers.specs.Swaps.{barred_past}
use Rattle.walk.specs.CodeLists.{codes_of}

abbrev pub Allowed : Type 0
Allowed = Form → List ℕ → Bool

abbrev pub times : (List ℕ → List ℕ) → ℕ → List ℕ → List ℕ
times go zero c = c
times go (suc n) c = times go n (go c)

unfoldable pub seek : ℕ → (List ℕ → List ℕ) → (List ℕ → Bool) → List ℕ → List ℕ
seek zero go says c = c
seek (suc n) go says c = cond (says c) c (seek n go says (go c))

abbrev pub denied_open : Meaning → Allowed → Form → List ℕ → Bool
denied_open m allowed f c = not (allowed f c) && not (is_some (m.barred f c))

unfoldable pub denied_count : Meaning → Allowed → Form → ℕ
denied_count m allowed f = count_by (denied_open m allowed f) (codes_of f)

unfoldable pub few_codes : Form → Bool
few_codes f = nat_le (radix_of f.alphabet ^ f.len) (2 ^ 63)

abbrev pub barred_by : Bool → Option ℕ → Option ℕ
barred_by says below = cond says (barred_past below) (Some 0)

-- no cycle has more denied codes than there are
abbrev pub sought : Meaning → Allowed → (Form → List ℕ → List ℕ → List ℕ) → Form → List ℕ → List ℕ → List ℕ
sought m allowed go f run c = seek (denied_count m allowed f) (go f run) (allowed f) c

abbrev pub walked_by : Meaning → Allowed → (Form → List ℕ → List ℕ → List ℕ) → Form → List ℕ → List ℕ → List ℕ
walked_by m allowed go f run c = sought m allowed go f run (go f run c)

abbrev pub walking : Meaning → Allowed → Meaning
walking m allowed = record {
  taken = λ f. m.taken f && few_codes f;
  barred = λ f c. barred_by (allowed f c) (m.barred f c);
  forward = walked_by m allowed m.forward;
  backward = walked_by m allowed m.backward;
}
