-- Lines and their words. Assumes nothing.
use Rattle.std.proofs.Common.{◌≡◌, ℕ, suc, not, Some, None, ◌+◌, ◌<◌, ◌≤◌, Bool, true, false, cond, eqb, List, [], ◌∷◌, ◌++◌, length, take, drop, sym, refl, ap, ◌∙◌, inl, inr, le_of_suc-le-suc, not-suc-le-zero, add-one, arith}
use Rattle.std.specs.List.{position, position_or_len}
use Rattle.std.proofs.lemmas.List.{take_all}
use Rattle.std.proofs.lemmas.Bool.Decides.{nat_tests}
use Rattle.std.proofs.lemmas.Bool.{cases_Bool, cond-true, cond-false, eqb-true, eqb-false, ne_eqb}
use Rattle.text.specs.Words.{space, first_word, later_words, words_of, spaced, joined, Spaceless, EachSpaceless, SplitsAtSpaces}

joins : (line : List ℕ) → joined (words_of line) ≡ line
unfolding first_word later_words words_of
joins [] = refl
joins (b ∷ bs) =
    let P : Bool → Type 0 = λ t. eqb b space ≡ t → cond t [] (b ∷ first_word bs) ++ spaced (cond t (first_word bs ∷ later_words bs) (later_words bs)) ≡ b ∷ bs in
    let at : (t : Bool) → P t = λ t. elim t as P [ true ↦ (λ e. let h = eqb-true b space e in cc (joins bs)) | false ↦ (λ e. ap (λ l. b ∷ l) (joins bs)) ] in
    at (eqb b space) refl

-- a word's first byte, at a space and elsewhere
at_space : (b : ℕ) (bs : List ℕ) → eqb b space ≡ true → (first_word (b ∷ bs) ≡ []) × (later_words (b ∷ bs) ≡ words_of bs)
unfolding first_word later_words words_of
at_space b bs e = (cond-true (eqb b space) _ _ e, cond-true (eqb b space) _ _ e)

elsewhere : (b : ℕ) (bs : List ℕ) → eqb b space ≡ false → (first_word (b ∷ bs) ≡ b ∷ first_word bs) × (later_words (b ∷ bs) ≡ later_words bs)
unfolding first_word later_words
elsewhere b bs e = (cond-false (eqb b space) _ _ e, cond-false (eqb b space) _ _ e)

pub first_take : (line : List ℕ) → take (length (first_word line)) line ≡ first_word line
unfolding first_word
first_take [] = refl
first_take (b ∷ bs) =
    elim (cases_Bool (eqb b space)) [
      | inl e ↦ rw (at_space b bs e).0 refl
      | inr e ↦ rw (elsewhere b bs e).0 (ap (λ l. b ∷ l) (first_take bs))
    ]

-- a first word that ends before the line does is followed by a space, and then by the other words
later_past : (line : List ℕ) → length (first_word line) < length line → words_of (drop (suc (length (first_word line))) line) ≡ later_words line
unfolding first_word
later_past [] h = absurd (omega arith)
later_past (b ∷ bs) h =
    elim (cases_Bool (eqb b space)) [
      | inl e ↦ rw ((at_space b bs e).0, (at_space b bs e).1) refl
      | inr e ↦ let k : length (first_word bs) < length bs = le_of_suc-le-suc (rw (elsewhere b bs e).0 at h) in rw ((elsewhere b bs e).0, (elsewhere b bs e).1) (later_past bs k)
    ]

later_none : (line : List ℕ) → length line ≤ length (first_word line) → later_words line ≡ []
unfolding first_word later_words
later_none [] h = refl
later_none (b ∷ bs) h =
    elim (cases_Bool (eqb b space)) [
      | inl e ↦ absurd (not-suc-le-zero (rw (at_space b bs e).0 at h))
      | inr e ↦ (elsewhere b bs e).1 ∙ later_none bs (le_of_suc-le-suc (rw (elsewhere b bs e).0 at h))
    ]

-- what follows the first word, which ends at n
pub follows : (line : List ℕ) (n : ℕ) → n ≡ length (first_word line) → n < length line → words_of (drop (n + 1) line) ≡ later_words line
follows line n e h = rw (add-one, e) (later_past line (rw e at h))

pub ends : (line : List ℕ) (n : ℕ) → n ≡ length (first_word line) → length line ≤ n → [] ≡ later_words line
ends line n e h = sym (later_none line (rw e at h))

spaceless_first : (line : List ℕ) → Spaceless (first_word line)
unfolding first_word
spaceless_first [] = tt
spaceless_first (b ∷ bs) =
    elim (cases_Bool (eqb b space)) [
      | inl e ↦ rw (at_space b bs e).0 tt
      | inr e ↦ rw (elsewhere b bs e).0 (eqb-false b space e, spaceless_first bs)
    ]

spaceless_later : (line : List ℕ) → EachSpaceless (later_words line)
unfolding later_words words_of
spaceless_later [] = tt
spaceless_later (b ∷ bs) =
    elim (cases_Bool (eqb b space)) [
      | inl e ↦ rw (at_space b bs e).1 (spaceless_first bs, spaceless_later bs)
      | inr e ↦ rw (elsewhere b bs e).1 (spaceless_later bs)
    ]

only : (w : List ℕ) (ws : List (List ℕ)) → EachSpaceless (w ∷ ws) → words_of (joined (w ∷ ws)) ≡ w ∷ ws
unfolding first_word later_words words_of
only [] [] h = refl
only [] (v ∷ ws) h = ap (λ l. [] ∷ l) (only v ws h.1)
only (b ∷ w) ws h =
    let e = elsewhere b (w ++ spaced ws) (ne_eqb b space h.0.0) in
    let k = only w ws (h.0.1, h.1) in
    cc (e.0, e.1, k)

pub splits : SplitsAtSpaces
unfolding words_of
splits = record { joins = joins; spaceless = λ line. (spaceless_first line, spaceless_later line); only = only }

-- the first word ends at the first space, or at the end of the line
abbrev pub is_space : ℕ → Bool
is_space b = eqb b space

first_length : (line : List ℕ) → length (first_word line) ≡ position_or_len is_space line
unfolding first_word
first_length [] = refl
first_length (b ∷ bs) =
    let P : Bool → Type 0 = λ t. length (cond t [] (b ∷ first_word bs)) ≡ cond (not t) (1 + position_or_len is_space bs) 0 in
    let e = first_length bs in
    let at : (t : Bool) → P t = λ t. elim t as P [ true ↦ refl | false ↦ omega (arith, e) ] in
    at (eqb b space)

pub at_the_first : (line : List ℕ) (n : ℕ) → position is_space line ≡ Some n → (n ≡ length (first_word line)) × (n < length line)
at_the_first line n e = let h = first_length line in (grind (arith, nat_tests), grind (arith, nat_tests))

pub nowhere : (line : List ℕ) → position is_space line ≡ None → length line ≤ length (first_word line)
nowhere line e = let h = first_length line in grind (arith, nat_tests)

pub all_of_it : (line : List ℕ) → length line ≤ length (first_word line) → line ≡ first_word line
all_of_it line h = sym (take_all (length (first_word line)) line h) ∙ first_take line
