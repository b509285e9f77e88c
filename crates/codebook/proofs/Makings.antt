-- Making a codebook, way by way. Assumes nothing.
use Rattle.std.proofs.Common.{◌≡◌, ℕ, ◌^◌, ◌<◌, ◌≤◌, leb, List, Some, None, sym, ap, ◌∙◌, inl, inr}
use Rattle.std.proofs.lemmas.Bool.{cases_Bool, cond-true, cond-false, le-leb, lt-leb, leb-true, leb-false}
use Rattle.alphabets.specs.declared.alphabet.Alphabet.{Alphabet}
use Rattle.faults.specs.declared.fault.Cause.TheVariants.{ShapeNotTaken}
use Rattle.alphabets.specs.Alphabets.{radix_of}
use Rattle.faults.specs.Faults.{own}
use Rattle.formats.specs.Forms.{Form, code_count}
use Rattle.faults.proofs.Variants.{none≢some, some≢none, same_some}
use Rattle.coins.specs.Boxes.{making}
use Rattle.coins.specs.Coins.{Outcome, refusal}
use Rattle.codebook.specs.Books.{Book, in_book, making_book}
use Rattle.codebook.specs.Numbers.{most_codes, few_codes}

-- what the count tells
pub too_many_told : (f : Form) → None ≡ few_codes f → most_codes < code_count f
too_many_told f e =
    elim (cases_Bool (leb (code_count f) most_codes)) [
      | inl t ↦ absurd (none≢some (code_count f) (e ∙ cond-true _ _ _ t))
      | inr t ↦ leb-false (code_count f) most_codes t
    ]

pub few_told : (f : Form) (n : ℕ) → Some n ≡ few_codes f → (n ≡ code_count f) × (code_count f ≤ most_codes)
few_told f n e =
    elim (cases_Bool (leb (code_count f) most_codes)) [
      | inl t ↦ (same_some n (code_count f) (e ∙ cond-true _ _ _ t), leb-true (code_count f) most_codes t)
      | inr t ↦ absurd (some≢none n (e ∙ cond-false _ _ _ t))
    ]

pub count_is : (f : Form) (n : ℕ) {a : Alphabet} {len : ℕ} → Some n ≡ few_codes f → a ≡ f.alphabet → len ≡ f.len → n ≡ radix_of a ^ len
unfolding code_count
count_is f n {a} {len} e alphabet long =
    (few_told f n e).0 ∙ ap (λ s. radix_of s ^ f.len) (sym alphabet) ∙ ap (λ m. radix_of a ^ m) (sym long)

module _ (f : Form) (coins : List ℕ) where
  -- a box of n numbers, in a codebook
  abbrev pub box_book : ℕ → Outcome Book
  box_book n = record { answer = in_book f (making n coins).answer; gone = (making n coins).gone }

  pub making_many : most_codes < code_count f → making_book f coins ≡ refusal (own ShapeNotTaken)
  unfolding making_book
  making_many h = cond-false _ _ _ (lt-leb (code_count f) most_codes h)

  pub making_few : code_count f ≤ most_codes →
      making_book f coins ≡ box_book (code_count f)
  unfolding making_book
  making_few h = cond-true _ _ _ (le-leb (code_count f) most_codes h)

  -- with the count that was told
  pub making_told : (n : ℕ) → Some n ≡ few_codes f →
      box_book n ≡ making_book f coins
  making_told n e =
      let told = few_told f n e in
      ap box_book told.0 ∙ sym (making_few told.1)
