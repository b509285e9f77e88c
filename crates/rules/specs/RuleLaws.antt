-- What the rules are held to. Assumes nothing.
--   LeadTold  the nonzero rule says yes to the codes whose first symbol is not 0, and to nothing else
--   LuhnTold  the Luhn rule says yes to the codes of digits whose weighted sum is a multiple of 10, and to nothing else
--   Examples  some answers
use Rattle.std.specs.Prelude.{◌≡◌, ℕ, ◌%◌, ◌<◌, true, false, List, [], ◌∷◌, slice_index}
use Rattle.alphabets.specs.declared.alphabet.Alphabet.TheVariants.{Decimal, Hex}
use Rattle.formats.specs.Codes.{Code}
use Rattle.formats.specs.Forms.{Form, form_of}
use Rattle.rules.specs.Rules.{leads_nonzero, luhn_sum, passes_luhn}

pub record LeadTold (f : Form) (c : List ℕ) : Type 0 where
  pub says_yes : Code f c → 0 < slice_index c 0 → leads_nonzero f c ≡ true
  pub only : leads_nonzero f c ≡ true → Code f c × (0 < slice_index c 0)

pub record LuhnTold (f : Form) (c : List ℕ) : Type 0 where
  pub says_yes : f.alphabet ≡ Decimal → Code f c → luhn_sum c % 10 ≡ 0 → passes_luhn f c ≡ true
  pub only : passes_luhn f c ≡ true → (f.alphabet ≡ Decimal) × Code f c × (luhn_sum c % 10 ≡ 0)

pub record Examples (rounds : ℕ) : Type 0 where
  pub eighteen : passes_luhn (form_of Decimal 2 rounds) (1 ∷ 8 ∷ []) ≡ true
  pub eighty_one : passes_luhn (form_of Decimal 2 rounds) (8 ∷ 1 ∷ []) ≡ false
  -- 5 is doubled to 10, less 9
  pub fifty_nine : passes_luhn (form_of Decimal 2 rounds) (5 ∷ 9 ∷ []) ≡ true
  pub not_in_hex : passes_luhn (form_of Hex 2 rounds) (1 ∷ 8 ∷ []) ≡ false
  pub too_short : passes_luhn (form_of Decimal 2 rounds) (0 ∷ []) ≡ false
  pub nine : leads_nonzero (form_of Decimal 1 rounds) (9 ∷ []) ≡ true
  pub zero_lead : leads_nonzero (form_of Decimal 2 rounds) (0 ∷ 9 ∷ []) ≡ false
  pub no_symbol : leads_nonzero (form_of Decimal 1 rounds) (10 ∷ []) ≡ false
