-- Texts and codes go one to one, and the checks tell them. Assumes nothing.
use Rattle.std.proofs.Common.{◌≡◌, ℕ, zero, suc, ◌+◌, ◌<◌, Bool, true, false, eqb, List, [], ◌∷◌, map, length, get_or, is_some, Some, None, Ok, Err, Option, unwrap_or, sym, refl, ap, ◌∙◌, inl, inr, add-suc, suc-add, zero-add, arith}
use Rattle.std.specs.List.{AllByRecursion}
use Rattle.std.proofs.ByRecursion.{All-get_or, All-map, All-weaker}
use Rattle.std.proofs.lemmas.List.{length-map}
use Rattle.std.proofs.lemmas.Bool.{cases_Bool, cond-true, cond-false, eq-eqb, eqb-true, lt-ltb, ltb-true, false≢true}
use Rattle.alphabets.specs.declared.alphabet.Alphabet.{Alphabet}
use Rattle.faults.specs.declared.fault.Cause.TheVariants.{CodeLength, NotASymbol}
use Rattle.alphabets.specs.Alphabets.{radix_of, symbol_of, byte_of}
use Rattle.formats.specs.CodeLaws.{First, BackAndForth}
use Rattle.formats.specs.Codes.{Code, first_not, writes, is_symbol, symbol_at, byte_at, verdict, unless_stray, fits, as_symbols, as_bytes, code_verdict, text_verdict}
use Rattle.faults.specs.Faults.{own, placed}
use Rattle.formats.specs.Forms.{Form}
use Rattle.alphabets.proofs.Symbols.{one_to_one}
use Rattle.faults.proofs.Variants.{none≢some, some≢none, err≢ok, same_some}

abbrev Passes : (ℕ → Bool) → List ℕ → Type 0
Passes p xs = AllByRecursion (λ x. p x ≡ true) xs

-- nothing is stray where the test passes at each entry
pub none_stray : (p : ℕ → Bool) (i : ℕ) (xs : List ℕ) → Passes p xs → first_not p i xs ≡ None
none_stray p i [] all = refl
none_stray p i (x ∷ xs) all = cond-true (p x) (first_not p (suc i) xs) (Some i) all.0 ∙ none_stray p (suc i) xs all.1

pub all_pass : (p : ℕ → Bool) (i : ℕ) (xs : List ℕ) → first_not p i xs ≡ None → Passes p xs
all_pass p i [] e = tt
all_pass p i (x ∷ xs) e =
    elim (cases_Bool (p x)) [
      | inl yep ↦ (yep, all_pass p (suc i) xs (sym (cond-true (p x) (first_not p (suc i) xs) (Some i) yep) ∙ e))
      | inr nope ↦
          absurd (some≢none i (sym (cond-false (p x) (first_not p (suc i) xs) (Some i) nope) ∙ e))
    ]

-- the first entry at which the test fails
before_more : (p : ℕ → Bool) (x : ℕ) (xs : List ℕ) (k : ℕ) → p x ≡ true → ((m : ℕ) → m < k → p (get_or xs m 0) ≡ true) → (m : ℕ) → m < suc k → p (get_or (x ∷ xs) m 0) ≡ true
before_more p x xs k here later zero h = here
before_more p x xs k here later (suc m) h = later m (omega arith)

first_at : (p : ℕ → Bool) (xs : List ℕ) (j i : ℕ) → first_not p j xs ≡ Some i → (k : ℕ) × (i ≡ j + k) × (k < length xs) × (p (get_or xs k 0) ≡ false) × ((m : ℕ) → m < k → p (get_or xs m 0) ≡ true)
first_at p [] j i e = absurd (none≢some i e)
first_at p (x ∷ xs) j i e =
    elim (cases_Bool (p x)) [
      | inl yep ↦
          let w = first_at p xs (suc j) i (sym (cond-true (p x) (first_not p (suc j) xs) (Some j) yep) ∙ e) in
          (suc w.0, w.1 ∙ suc-add j w.0 ∙ sym (add-suc j w.0), omega arith, w.3, before_more p x xs w.0 yep w.4)
      | inr nope ↦
          let here = same_some j i (sym (cond-false (p x) (first_not p (suc j) xs) (Some j) nope) ∙ e) in
          (0, omega arith, omega arith, nope, λ m h. let never : ⊥ = omega arith in absurd never)
    ]

pub first : (p : ℕ → Bool) (xs : List ℕ) → First p xs
first p xs =
    record {
      nowhere = λ e k h. All-get_or (λ x. p x ≡ true) xs k 0 h (all_pass p 0 xs e);
      within = λ i e. let w = first_at p xs 0 i e in omega arith;
      fails = λ i e. let w = first_at p xs 0 i e in ap (λ n. p (get_or xs n 0)) (w.1 ∙ zero-add w.0) ∙ w.3;
      passes_before = λ i e k h. let w = first_at p xs 0 i e in w.4 k (omega arith);
    }

-- what changes each entry, and is refused where an entry does not pass
abbrev changed : (ℕ → Bool) → (ℕ → ℕ) → List ℕ → List ℕ
changed p f xs = unless_stray (first_not p 0 xs) (map f xs) xs

changed_all : (p : ℕ → Bool) (f : ℕ → ℕ) (xs : List ℕ) → Passes p xs → changed p f xs ≡ map f xs
changed_all p f xs all = ap (λ o. unless_stray o (map f xs) xs) (none_stray p 0 xs all)

-- f takes what passes p to what passes q, and g takes it back
module _ (p q : ℕ → Bool) (f g : ℕ → ℕ) (there : (x : ℕ) → p x ≡ true → q (f x) ≡ true) (back : (x : ℕ) → p x ≡ true → g (f x) ≡ x) where
  map_back : (xs : List ℕ) → Passes p xs → map g (map f xs) ≡ xs
  map_back [] all = refl
  map_back (x ∷ xs) all = ap (λ y. y ∷ map g (map f xs)) (back x all.0) ∙ ap (λ ys. x ∷ ys) (map_back xs all.1)

  changed_passes : (xs : List ℕ) → Passes p xs → Passes q (changed p f xs)
  changed_passes xs all =
      rw (changed_all p f xs all) (All-map (λ y. q y ≡ true) f xs (All-weaker (λ x. p x ≡ true) (λ x. q (f x) ≡ true) there xs all))

  changed_back : (xs : List ℕ) → Passes p xs → changed q g (changed p f xs) ≡ xs
  changed_back xs all =
      changed_all q g (changed p f xs) (changed_passes xs all) ∙ ap (map g) (changed_all p f xs all) ∙ map_back xs all

  changed_long : (xs : List ℕ) → Passes p xs → length (changed p f xs) ≡ length xs
  changed_long xs all = ap length (changed_all p f xs all) ∙ length-map xs f

some_of : (o : Option ℕ) → is_some o ≡ true → o ≡ Some (unwrap_or o 0)
some_of None e = absurd (false≢true e)
some_of (Some x) e = refl

module _ (a : Alphabet) where
  symbol_of_lem : (b : ℕ) → writes a b ≡ true → symbol_of a b ≡ Some (symbol_at a b)
  symbol_of_lem b e = some_of (symbol_of a b) e

  writes_symbol : (b : ℕ) → writes a b ≡ true → is_symbol a (symbol_at a b) ≡ true
  writes_symbol b e = lt-ltb _ _ ((one_to_one a).below b (symbol_at a b) (symbol_of_lem b e))

  byte_back : (b : ℕ) → writes a b ≡ true → byte_at a (symbol_at a b) ≡ b
  byte_back b e = ap (λ o. unwrap_or o 0) ((one_to_one a).written b (symbol_at a b) (symbol_of_lem b e))

  byte_of_lem : (x : ℕ) → is_symbol a x ≡ true → byte_of a x ≡ Some (byte_at a x)
  byte_of_lem x e =
      let w = (one_to_one a).each x (ltb-true x (radix_of a) e) in
      w.1 ∙ ap Some (sym (ap (λ o. unwrap_or o 0) w.1))

  symbol_back : (x : ℕ) → is_symbol a x ≡ true → symbol_of a (byte_at a x) ≡ Some x
  symbol_back x e = (one_to_one a).read (byte_at a x) x (byte_of_lem x e)

-- a verdict that passes
passed : (o : Option ℕ) → verdict o ≡ Ok tt → o ≡ None
passed None e = refl
passed (Some place) e = absurd (err≢ok (placed (own NotASymbol) place) tt e)

fits_passes : (f : Form) (xs : List ℕ) (o : Option ℕ) → length xs ≡ f.len → o ≡ None → fits f xs (verdict o) ≡ Ok tt
fits_passes f xs o long none = cond-true (eqb (length xs) f.len) (verdict o) (Err (own CodeLength)) (eq-eqb _ _ long) ∙ ap verdict none

passed_fits : (f : Form) (xs : List ℕ) (o : Option ℕ) → fits f xs (verdict o) ≡ Ok tt → (length xs ≡ f.len) × (o ≡ None)
passed_fits f xs o e =
    elim (cases_Bool (eqb (length xs) f.len)) [
      | inl yep ↦ (eqb-true _ _ yep, passed o (sym (cond-true (eqb (length xs) f.len) (verdict o) (Err (own CodeLength)) yep) ∙ e))
      | inr nope ↦
          absurd (err≢ok (own CodeLength) tt (sym (cond-false (eqb (length xs) f.len) (verdict o) (Err (own CodeLength)) nope) ∙ e))
    ]

module _ (f : Form) where
  all_symbols : (code : List ℕ) → Code f code → Passes (is_symbol f.alphabet) code
  all_symbols code c = All-weaker (λ x. x < radix_of f.alphabet) (λ x. is_symbol f.alphabet x ≡ true) (λ x h. lt-ltb _ _ h) code c.symbols

  as_code : (code : List ℕ) → length code ≡ f.len → Passes (is_symbol f.alphabet) code → Code f code
  as_code code long all =
      record { long = long; symbols = All-weaker (λ x. is_symbol f.alphabet x ≡ true) (λ x. x < radix_of f.alphabet) (λ x h. ltb-true _ _ h) code all }

  pub back_and_forth : BackAndForth f
  unfolding as_symbols as_bytes code_verdict text_verdict
  back_and_forth =
      let a = f.alphabet in
      record {
        symbols = λ text t. as_code _ (changed_long (writes a) (is_symbol a) (symbol_at a) (byte_at a) (writes_symbol a) (byte_back a) text t.bytes ∙ t.long) (changed_passes (writes a) (is_symbol a) (symbol_at a) (byte_at a) (writes_symbol a) (byte_back a) text t.bytes);
        same_text = λ text t. changed_back (writes a) (is_symbol a) (symbol_at a) (byte_at a) (writes_symbol a) (byte_back a) text t.bytes;
        bytes = λ code c. record {
          long = changed_long (is_symbol a) (writes a) (byte_at a) (symbol_at a) (λ x e. ap is_some (symbol_back a x e)) (λ x e. ap (λ o. unwrap_or o 0) (symbol_back a x e)) code (all_symbols code c) ∙ c.long;
          bytes = changed_passes (is_symbol a) (writes a) (byte_at a) (symbol_at a) (λ x e. ap is_some (symbol_back a x e)) (λ x e. ap (λ o. unwrap_or o 0) (symbol_back a x e)) code (all_symbols code c);
        };
        same_code = λ code c. changed_back (is_symbol a) (writes a) (byte_at a) (symbol_at a) (λ x e. ap is_some (symbol_back a x e)) (λ x e. ap (λ o. unwrap_or o 0) (symbol_back a x e)) code (all_symbols code c);
        text_turns = λ text t. none_stray (writes a) 0 text t.bytes;
        code_turns = λ code c. none_stray (is_symbol a) 0 code (all_symbols code c);
        code_passes = λ code c. fits_passes f code _ c.long (none_stray (is_symbol a) 0 code (all_symbols code c));
        only_codes = λ code e. let p = passed_fits f code _ e in as_code code p.0 (all_pass (is_symbol a) 0 code p.1);
        text_passes = λ text t. fits_passes f text _ t.long (none_stray (writes a) 0 text t.bytes);
        only_texts = λ text e. let p = passed_fits f text _ e in record { long = p.0; bytes = all_pass (writes a) 0 text p.1 };
      }
