-- The limits of a shape and the tests of them. Assumes nothing.
use Rattle.std.proofs.Common.{◌≡◌, ℕ, ◌*◌, ◌≤◌, Bool, true, false, cond, eqb, leb, Some, None, Ok, Err, Option, Result, sym, refl, ap, ◌∙◌, subst, inl, inr, le_refl, zero-mul, arith}
use Rattle.std.proofs.lemmas.Bool.{cases_Bool, cases_eq, cond-true, cond-false, and_parts, and_from, eq-eqb, ne_eqb, leb-true, le-leb}
use Rattle.alphabets.specs.declared.alphabet.Alphabet.{Alphabet}
use Rattle.alphabets.specs.declared.alphabet.Alphabet.TheVariants.{Decimal, Hex, Upper, Alphanumeric}
use Rattle.faults.specs.declared.fault.Cause.TheVariants.{Length, Rounds}
use Rattle.faults.specs.declared.fault.Fault.{Fault}
use Rattle.formats.specs.declared.shape.Shape.{Shape}
use Rattle.faults.specs.Faults.{own}
use Rattle.formats.specs.Forms.{Form, Exists, form_of, least_of, default_rounds, layers_of, most_layers, length_fits, rounds_fit, remade, made}
use Rattle.formats.specs.LeastRounds.{least, tabled, column_below, column_above}
use Rattle.formats.specs.ShapeLaws.{Bounded, Makes, DefaultsExist, Tabled}
use Rattle.formats.specs.Shapes.{form}
use Rattle.alphabets.proofs.Tables.{at_below}
use Rattle.faults.proofs.Variants.{err≢ok, same_ok}

-- the two limits of the layers are one
layers_within : (n r : ℕ) → r * n ≤ most_layers n → r * n ≤ 2048
layers_within n r h =
    elim (cases_Bool (eqb n 1)) [
      | inl yep ↦ let e : most_layers n ≡ 0 = cond-true (eqb n 1) 0 2048 yep in omega arith
      | inr nope ↦ let e : most_layers n ≡ 2048 = cond-false (eqb n 1) 0 2048 nope in omega arith
    ]

no_rounds : (n r : ℕ) → r * n ≤ most_layers n → n ≡ 1 → r ≡ 0
no_rounds n r h e = let k : r * 1 ≤ 0 = subst (λ (m : ℕ). r * m ≤ most_layers m) e h in omega arith

layers_fit : (n r : ℕ) → (n ≡ 1 → r ≡ 0) → r * n ≤ 2048 → r * n ≤ most_layers n
layers_fit n r alone h =
    elim (cases_eq n 1) [
      | inl yep ↦
          let z = alone yep in
          let e : r * n ≡ 0 = ap (λ m. m * n) z ∙ zero-mul n in omega arith
      | inr nope ↦ let e : most_layers n ≡ 2048 = cond-false (eqb n 1) 0 2048 (ne_eqb n 1 nope) in omega arith
    ]

pub form_exists : (s : Shape) → Exists (form s)
form_exists s =
    record {
      some = s.some;
      short = s.short;
      alone = no_rounds s.len s.rounds s.few;
      enough = s.enough;
      few = layers_within s.len s.rounds s.few;
    }

-- a test that cannot pass fails
outside : {b : Bool} → (b ≡ true → ⊥) → b ≡ false
outside {b} out = elim (cases_Bool b) [ inl yep ↦ absurd (out yep) | inr nope ↦ nope ]

module _ (f : Form) where
  fits_length : Exists f → length_fits f.len ≡ true
  fits_length x = and_from _ _ (le-leb 1 f.len x.some) (le-leb f.len 32 x.short)

  fits_rounds : Exists f → rounds_fit f ≡ true
  fits_rounds x =
      and_from _ _ (le-leb (least_of f.alphabet f.len) f.rounds x.enough) (le-leb (layers_of f) (most_layers f.len) (layers_fit f.len f.rounds x.alone x.few))

  by_tests : length_fits f.len ≡ true → rounds_fit f ≡ true → Exists f
  by_tests l r =
      let lp = and_parts (leb 1 f.len) (leb f.len 32) l in
      let rp = and_parts (leb (least_of f.alphabet f.len) f.rounds) (leb (layers_of f) (most_layers f.len)) r in
      let layers = leb-true (layers_of f) (most_layers f.len) rp.1 in
      record {
        some = leb-true 1 f.len lp.0;
        short = leb-true f.len 32 lp.1;
        alone = no_rounds f.len f.rounds layers;
        enough = leb-true _ _ rp.0;
        few = layers_within f.len f.rounds layers;
      }

  abbrev inner : Result Form Fault
  inner = cond (rounds_fit f) (Ok f) (Err (own Rounds))

  pub bounded : Bounded f
  unfolding remade
  bounded =
      record {
        within = λ x. cond-true (length_fits f.len) inner (Err (own Length)) (fits_length x) ∙ cond-true (rounds_fit f) (Ok f) (Err (own Rounds)) (fits_rounds x);
        without = λ g e.
            elim (cases_Bool (length_fits f.len)) [
              | inl l ↦
                  let e2 : inner ≡ Ok g = sym (cond-true (length_fits f.len) inner (Err (own Length)) l) ∙ e in
                  elim (cases_Bool (rounds_fit f)) [
                    | inl r ↦ (same_ok f g (sym (cond-true (rounds_fit f) (Ok f) (Err (own Rounds)) r) ∙ e2), by_tests l r)
                    | inr r ↦ absurd (err≢ok (own Rounds) g (sym (cond-false (rounds_fit f) (Ok f) (Err (own Rounds)) r) ∙ e2))
                  ]
              | inr l ↦ absurd (err≢ok (own Length) g (sym (cond-false (length_fits f.len) inner (Err (own Length)) l) ∙ e))
            ];
      }

-- the default rounds of each alphabet and length make few enough layers
few_layers : (a : Alphabet) (n : ℕ) → n ≤ 32 → default_rounds a n * n ≤ 2048
unfolding least tabled column_below column_above
few_layers Decimal n h = leb-true _ _ (at_below (λ k. leb (default_rounds Decimal k * k) 2048) 33 refl n (omega arith))
few_layers Hex n h = leb-true _ _ (at_below (λ k. leb (default_rounds Hex k * k) 2048) 33 refl n (omega arith))
few_layers Upper n h = leb-true _ _ (at_below (λ k. leb (default_rounds Upper k * k) 2048) 33 refl n (omega arith))
few_layers Alphanumeric n h = leb-true _ _ (at_below (λ k. leb (default_rounds Alphanumeric k * k) 2048) 33 refl n (omega arith))

pub none_at_one : (a : Alphabet) → default_rounds a 1 ≡ 0
unfolding least tabled
none_at_one Decimal = refl
none_at_one Hex = refl
none_at_one Upper = refl
none_at_one Alphanumeric = refl

pub defaults_exist : DefaultsExist
defaults_exist a n some short =
    record {
      some = some;
      short = short;
      alone = λ e. ap (default_rounds a) e ∙ none_at_one a;
      enough = le_refl (default_rounds a n);
      few = few_layers a n short;
    }

-- what is made
module _ (a : Alphabet) (n : ℕ) where
  no_length : (r : ℕ) → (1 ≤ n → n ≤ 32 → ⊥) → remade (form_of a n r) ≡ Err (own Length)
  unfolding remade
  no_length r out =
      cond-false (length_fits n) (inner (form_of a n r)) (Err (own Length)) (outside (λ e. let parts = and_parts (leb 1 n) (leb n 32) e in out (leb-true 1 n parts.0) (leb-true n 32 parts.1)))

  length_refused : (o : Option ℕ) → (1 ≤ n → n ≤ 32 → ⊥) → made a n o ≡ Err (own Length)
  length_refused None out = no_length (default_rounds a n) out
  length_refused (Some r) out =
      cond-false (eqb n 1) (Err (own Rounds)) (remade (form_of a n r)) (ne_eqb n 1 (λ one. out (omega arith) (omega arith))) ∙ no_length r out

  named_from_two : (r : ℕ) → 2 ≤ n → made a n (Some r) ≡ remade (form_of a n r)
  named_from_two r two = cond-false (eqb n 1) (Err (own Rounds)) (remade (form_of a n r)) (ne_eqb n 1 (λ one. omega arith))

  rounds_refused : (r : ℕ) → 2 ≤ n → n ≤ 32 → (Exists (form_of a n r) → ⊥) → remade (form_of a n r) ≡ Err (own Rounds)
  unfolding remade
  rounds_refused r two short out =
      let f = form_of a n r in
      let fit : length_fits n ≡ true = and_from _ _ (le-leb 1 n (omega arith)) (le-leb n 32 short) in
      cond-true (length_fits n) (inner f) (Err (own Length)) fit ∙ cond-false (rounds_fit f) (Ok f) (Err (own Rounds)) (outside (λ e. out (by_tests f fit e)))

  pub makes : Makes a n
  makes =
      record {
        none = λ o e. length_refused o (λ some short. omega arith);
        long = λ o e. length_refused o (λ some short. omega arith);
        default = λ some short. (bounded (form_of a n (default_rounds a n))).within (defaults_exist a n some short);
        single = λ r e. cond-true (eqb n 1) (Err (own Rounds)) (remade (form_of a n r)) (eq-eqb n 1 e);
        taken = λ r two is. named_from_two r two ∙ (bounded (form_of a n r)).within is;
        refused = λ r two short out. named_from_two r two ∙ rounds_refused r two short out;
      }

pub tabled_as_published : Tabled
unfolding least tabled column_below column_above
tabled_as_published = record { seven_digits = refl; ten_digits = refl; eleven_digits = refl; ten_signs = refl }
