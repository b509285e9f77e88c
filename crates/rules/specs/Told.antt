-- The rules say yes to codes alone, and to which. Assumes nothing.
use Rattle.std.specs.Prelude.{◌≡◌, ℕ, ◌+◌, ◌%◌, ◌<◌, ◌≤◌, Bool, true, false, not, ◌&&◌, List, [], ◌∷◌, length, drop, is_ok, Ok, Err, Result, ◌==◌, ◌≢◌, nat_eq, slice_index, refl}
use Rattle.std.proofs.Math.Path.{sym, ap}
use Rattle.std.proofs.Common.{◌∙◌, inl, inr, arith}
use Rattle.std.proofs.lemmas.List.{at_drop_more, at_drop_all}
use Rattle.std.proofs.lemmas.Bool.{cases_eq, and_parts, and_from, and_left, and_right, eq-eqb, eqb-true, eqb-false, ne_eqb, not-true, not_from_false, false≢true}
use Rattle.alphabets.specs.declared.alphabet.Alphabet.{Alphabet}
use Rattle.alphabets.specs.declared.alphabet.Alphabet.TheVariants.{Decimal, Hex, Upper, Alphanumeric}
use Rattle.faults.specs.declared.fault.Fault.{Fault}
use Rattle.formats.specs.Codes.{Code, code_verdict}
use Rattle.formats.specs.Forms.{Form}
use Rattle.formats.proofs.Texts.{back_and_forth}
use Rattle.rules.specs.RuleLaws.{LeadTold, LuhnTold, Examples}
use Rattle.rules.specs.Rules.{is_code, first_nonzero, leads_nonzero, weight, weighted_sum, luhn_sum, is_decimal, passes_luhn}

ok_only : (r : Result Unit Fault) → is_ok r ≡ true → r ≡ Ok tt
ok_only (Ok u) e = refl
ok_only (Err fault) e = absurd (false≢true e)

pub code_only : (f : Form) (c : List ℕ) → is_code f c ≡ true → Code f c
unfolding is_code
code_only f c e = (back_and_forth f).only_codes c (ok_only (code_verdict f c) e)

pub code_passes : (f : Form) (c : List ℕ) → Code f c → is_code f c ≡ true
unfolding is_code
code_passes f c h = ap is_ok ((back_and_forth f).code_passes c h)

pub lead_only : (f : Form) (c : List ℕ) → leads_nonzero f c ≡ true → Code f c
unfolding leads_nonzero
lead_only f c e = code_only f c (and_parts _ _ e).0

pub luhn_only : (f : Form) (c : List ℕ) → passes_luhn f c ≡ true → Code f c
unfolding passes_luhn
luhn_only f c e = code_only f c (and_parts _ _ (and_parts _ _ e).1).0

first_yes : (c : List ℕ) → 0 < slice_index c 0 → first_nonzero c ≡ true
first_yes [] h = absurd (omega arith)
first_yes (x ∷ xs) h = not_from_false (x == 0) (ne_eqb x 0 (λ e. omega arith))

first_only : (c : List ℕ) → first_nonzero c ≡ true → 0 < slice_index c 0
first_only [] e = absurd (false≢true e)
first_only (x ∷ xs) e = let ne = eqb-false x 0 (not-true (x == 0) e) in omega arith

pub lead_told : (f : Form) (c : List ℕ) → LeadTold f c
unfolding leads_nonzero
lead_told f c = record {
  says_yes = λ h first. and_from _ _ (code_passes f c h) (first_yes c first);
  only = λ e. (lead_only f c e, first_only c (and_parts _ _ e).1);
}

decimal_only : (a : Alphabet) → is_decimal a ≡ true → a ≡ Decimal
decimal_only Decimal e = refl
decimal_only Hex e = absurd (false≢true e)
decimal_only Upper e = absurd (false≢true e)
decimal_only Alphanumeric e = absurd (false≢true e)

pub not_decimal : (a : Alphabet) → (a ≢ Decimal) → is_decimal a ≡ false
not_decimal Decimal n = absurd (n refl)
not_decimal Hex n = refl
not_decimal Upper n = refl
not_decimal Alphanumeric n = refl

pub luhn_told : (f : Form) (c : List ℕ) → LuhnTold f c
unfolding passes_luhn
luhn_told f c = record {
  says_yes = λ d h s. and_from _ _ (ap is_decimal d) (and_from _ _ (code_passes f c h) (eq-eqb _ _ s));
  only = λ e.
      let all = and_parts _ _ e in
      let rest = and_parts _ _ all.1 in
      (decimal_only f.alphabet all.0, code_only f c rest.0, eqb-true _ _ rest.1);
}

pub examples : (rounds : ℕ) → Examples rounds
unfolding passes_luhn leads_nonzero luhn_sum is_code code_verdict
examples rounds = record {
  eighteen = refl;
  eighty_one = refl;
  fifty_nine = refl;
  not_in_hex = refl;
  too_short = refl;
  nine = refl;
  zero_lead = refl;
  no_symbol = refl;
}

-- a digit counts at most twice the largest byte
pub small_weight : (doubled : Bool) (x : ℕ) → x < 256 → weight doubled x ≤ 510
small_weight false x h = omega arith
small_weight true x h = grind arith

-- the ways out of the questions
module _ (f : Form) (c : List ℕ) where
  pub lead_no_code : is_code f c ≡ false → false ≡ leads_nonzero f c
  unfolding leads_nonzero
  lead_no_code e = sym (and_left _ _ e)

  pub lead_by_first : is_code f c ≡ true → first_nonzero c ≡ leads_nonzero f c
  unfolding leads_nonzero
  lead_by_first e = ap (λ b. b && first_nonzero c) (sym e)

  pub luhn_other : (f.alphabet ≢ Decimal) → false ≡ passes_luhn f c
  unfolding passes_luhn
  luhn_other n = sym (and_left _ _ (not_decimal f.alphabet n))

  pub luhn_no_code : is_code f c ≡ false → false ≡ passes_luhn f c
  unfolding passes_luhn
  luhn_no_code e = sym (and_right _ _ (and_left _ _ e))

  pub luhn_by_sum : f.alphabet ≡ Decimal → is_code f c ≡ true → (sum : ℕ) → sum ≡ luhn_sum c → (sum % 10 == 0) ≡ passes_luhn f c
  unfolding passes_luhn
  luhn_by_sum d e sum s =
      ap (λ n. nat_eq (n % 10) 0) s ∙ ap (λ b. b && luhn_sum c % 10 == 0) (sym e) ∙
      ap (λ b. b && (is_code f c && luhn_sum c % 10 == 0)) (sym (ap is_decimal d))

pub first_some : (c : List ℕ) → 1 ≤ length c → not (slice_index c 0 == 0) ≡ first_nonzero c
first_some [] h = absurd (omega arith)
first_some (x ∷ xs) h = refl

-- the digits at even places, counted from 0, are doubled
pub by_turns : (i : ℕ) → not (i % 2 == 0) ≡ ((i + 1) % 2 == 0)
by_turns i =
    elim (cases_eq (i % 2) 0) [
      | inl even ↦ ap not (eq-eqb _ _ even) ∙ sym (ne_eqb ((i + 1) % 2) 0 (λ e. omega arith))
      | inr odd ↦ ap not (ne_eqb _ _ odd) ∙ sym (eq-eqb ((i + 1) % 2) 0 (omega arith))
    ]

-- one more digit
pub sum_more : (c : List ℕ) (i sum : ℕ) (doubled : Bool) (w : ℕ) → i < length c → w ≡ weight doubled (slice_index c i) →
    sum + weighted_sum doubled (drop i c) ≡ luhn_sum c → sum + w + weighted_sum (not doubled) (drop (i + 1) c) ≡ luhn_sum c
sum_more c i sum doubled w h e inv =
    let step = at_drop_more (weighted_sum doubled) c i 0 h in
    omega arith

pub sum_all : (c : List ℕ) (i sum : ℕ) (doubled : Bool) → length c ≤ i → sum + weighted_sum doubled (drop i c) ≡ luhn_sum c → sum ≡ luhn_sum c
sum_all c i sum doubled h inv =
    let none = at_drop_all (weighted_sum doubled) c i h in
    omega arith
