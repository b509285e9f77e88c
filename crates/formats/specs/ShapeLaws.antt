-- What shapes and their texts are held to. Assumes nothing.
--   Bounded       a form's parts make a shape exactly where the form exists
--   Makes         what an alphabet, a length and rounds that may be named make
--   Spelled       a text is made of an alphabet's letter, a length and, if named, rounds
--   Spells        a text spells a form
--   ReadsExactly  the reader takes the texts that spell a form that exists, and no others
--   Tabled        some least numbers, as published
--   Examples      some texts and what the reader answers to them
use Rattle.std.specs.Prelude.{◌≡◌, ℕ, ◌<◌, ◌≤◌, ◌⊎◌, List, ◌++◌, Some, None, Ok, Err, codes, Option}
use Rattle.alphabets.specs.declared.alphabet.Alphabet.{Alphabet}
use Rattle.alphabets.specs.declared.alphabet.Alphabet.TheVariants.{Decimal, Alphanumeric}
use Rattle.faults.specs.declared.fault.Cause.TheVariants.{ShapeText, Length, Rounds}
use Rattle.faults.specs.Faults.{own}
use Rattle.formats.specs.Forms.{Form, Exists, form_of, default_rounds, remade, made}
use Rattle.formats.specs.LeastRounds.{least}
use Rattle.formats.specs.ShapeTexts.{stem, tail, read_form, text_of}

pub record Bounded (f : Form) : Type 0 where
  pub within : Exists f → remade f ≡ Ok f
  pub without : (g : Form) → remade f ≡ Ok g → (f ≡ g) × Exists f

pub record Makes (a : Alphabet) (n : ℕ) : Type 0 where
  -- a length of 0 or above 32 is refused as such, whatever the rounds
  pub none : (o : Option ℕ) → n ≡ 0 → made a n o ≡ Err (own Length)
  pub long : (o : Option ℕ) → 32 < n → made a n o ≡ Err (own Length)
  -- where no rounds are named there are as many as the default
  pub default : 1 ≤ n → n ≤ 32 → made a n None ≡ Ok (form_of a n (default_rounds a n))
  -- rounds are never named at length 1
  pub single : (r : ℕ) → n ≡ 1 → made a n (Some r) ≡ Err (own Rounds)
  -- from length 2 on they are taken where the form exists, and refused as such where it does not
  pub taken : (r : ℕ) → 2 ≤ n → Exists (form_of a n r) → made a n (Some r) ≡ Ok (form_of a n r)
  pub refused : (r : ℕ) → 2 ≤ n → n ≤ 32 → (Exists (form_of a n r) → ⊥) → made a n (Some r) ≡ Err (own Rounds)

abbrev pub Spelled : List ℕ → Alphabet → ℕ → Option ℕ → Type 0
Spelled text a n None = (text ≡ stem a n) × (n < 100)
Spelled text a n (Some r) = (text ≡ stem a n ++ tail r) × (n < 100) × (r < 1000)

-- with the default rounds where none are named; from length 2 on they may be named
abbrev pub Spells : List ℕ → Form → Type 0
Spells text f =
    (Spelled text f.alphabet f.len None × (f.rounds ≡ default_rounds f.alphabet f.len))
    ⊎ (Spelled text f.alphabet f.len (Some f.rounds) × (2 ≤ f.len))

pub record ReadsExactly (text : List ℕ) : Type 0 where
  -- what it answers is a form that exists, and that the text spells
  pub accepted : (f : Form) → read_form text ≡ Ok f → Spells text f × Exists f
  -- each form that exists is answered to a text that spells it
  pub spelled : (f : Form) → Spells text f → Exists f → read_form text ≡ Ok f
  -- a text that is made of the parts is refused for its parts alone
  pub parted : (a : Alphabet) (n : ℕ) (r : Option ℕ) → Spelled text a n r → read_form text ≡ made a n r
  -- any other text is refused as no shape's
  pub unread : ((a : Alphabet) (n : ℕ) (r : Option ℕ) → Spelled text a n r → ⊥) → read_form text ≡ Err (own ShapeText)
  -- the text that a form is written as is read as that form
  pub written : (f : Form) → Exists f → text_of f ≡ Some text → read_form text ≡ Ok f

-- an alphabet and a length from 1 to 32 are enough to name a shape
abbrev pub DefaultsExist : Type 0
DefaultsExist = (a : Alphabet) (n : ℕ) → 1 ≤ n → n ≤ 32 → Exists (form_of a n (default_rounds a n))

pub record Tabled : Type 0 where
  pub seven_digits : least 10 7 ≡ 45
  pub ten_digits : least 10 10 ≡ 39
  -- between the columns of 10 and 12
  pub eleven_digits : least 10 11 ≡ 39
  -- above radix 16
  pub ten_signs : least 36 10 ≡ 34

pub record Examples : Type 0 where
  pub default_ten : read_form (codes "d10") ≡ Ok (form_of Decimal 10 39)
  pub default_signs : read_form (codes "m10") ≡ Ok (form_of Alphanumeric 10 34)
  pub least_named : read_form (codes "d08/042") ≡ Ok (form_of Decimal 8 42)
  pub one_fewer : read_form (codes "d08/041") ≡ Err (own Rounds)
  pub most_layers_read : read_form (codes "d32/064") ≡ Ok (form_of Decimal 32 64)
  pub one_more : read_form (codes "d32/065") ≡ Err (own Rounds)
  pub one_digit : read_form (codes "d01") ≡ Ok (form_of Decimal 1 0)
  pub named_at_one : read_form (codes "d01/000") ≡ Err (own Rounds)
  pub no_digits : read_form (codes "d00/000") ≡ Err (own Length)
  pub too_long : read_form (codes "d33") ≡ Err (own Length)
  pub unknown_letter : read_form (codes "x10") ≡ Err (own ShapeText)
  pub two_digits_of_rounds : read_form (codes "d10/39") ≡ Err (own ShapeText)
