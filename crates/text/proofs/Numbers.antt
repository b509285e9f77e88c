-- The number that digits spell. Assumes nothing.
use Rattle.std.proofs.Common.{◌≡◌, ℕ, ◌+◌, ◌*◌, ◌^◌, ◌<◌, ◌≤◌, leb, List, [], ◌∷◌, length, get_or, drop, Some, None, Option, sym, refl, ap, ◌∙◌, pow-suc, add-one, arith, lit<}
use native.Mathlib.Nat.{pow-le-pow_right}
use Rattle.std.proofs.lemmas.List.{at_drop_more, at_drop_all}
use Rattle.std.proofs.lemmas.Bool.{and_from, and_left, and_right, le-leb, lt-leb, cond-true, cond-false}
use Rattle.text.specs.declared.hex.Letters.{Letters}
use Rattle.text.specs.Hex.{within, digit_of, both, number_from, number_of}

-- 31 digits leave room for one more
pub fits : (n i : ℕ) → i < 32 → n < 16 ^ i → n < 16 ^ 31
fits n i h k = let j : i ≤ 31 = omega arith in let p : 16 ^ i ≤ 16 ^ 31 = pow-le-pow_right (lit< tt) j in omega (arith, k, p)

pub bound_more : (n d i : ℕ) → d < 16 → n < 16 ^ i → n * 16 + d < 16 ^ (i + 1)
bound_more n d i h k = rw (add-one, pow-suc) (omega (arith, h, k))

no_number : (l : Letters) (bs : List ℕ) → number_from l None bs ≡ None
unfolding number_from
no_number l [] = refl
no_number l (b ∷ bs) = no_number l bs

module _ (l : Letters) (text : List ℕ) (n i : ℕ) (h : i < length text) (inv : number_from l (Some n) (drop i text) ≡ number_from l (Some 0) text) where
  step : (o : Option ℕ) → o ≡ digit_of l (get_or text i 0) → number_from l (both (λ m d. m * 16 + d) (Some n) o) (drop (i + 1) text) ≡ number_from l (Some 0) text
  unfolding number_from
  step o e = ap (λ p. number_from l (both (λ m d. m * 16 + d) (Some n) p) (drop (i + 1) text)) e ∙ sym (at_drop_more (number_from l (Some n)) text i 0 h) ∙ inv

  pub one_more : (d : ℕ) → Some d ≡ digit_of l (get_or text i 0) → number_from l (Some (n * 16 + d)) (drop (i + 1) text) ≡ number_from l (Some 0) text
  one_more d e = step (Some d) e

  pub not_a_digit : None ≡ digit_of l (get_or text i 0) → None ≡ number_from l (Some 0) text
  not_a_digit e = sym (no_number l (drop (i + 1) text)) ∙ step None e

module _ (l : Letters) (text : List ℕ) where
  pub not_a_number : 1 ≤ length text → length text ≤ 32 → None ≡ number_from l (Some 0) text → None ≡ number_of l text
  unfolding number_of
  not_a_number a b e = e ∙ sym (cond-true (within 1 32 (length text)) _ None (and_from (leb 1 (length text)) (leb (length text) 32) (le-leb 1 (length text) a) (le-leb (length text) 32 b)))

  pub number_read : (n i : ℕ) → 1 ≤ length text → length text ≤ 32 → length text ≤ i → number_from l (Some n) (drop i text) ≡ number_from l (Some 0) text → Some n ≡ number_of l text
  unfolding number_from number_of
  number_read n i a b h inv =
      sym (at_drop_all (number_from l (Some n)) text i h) ∙ inv
      ∙ sym (cond-true (within 1 32 (length text)) _ None (and_from (leb 1 (length text)) (leb (length text) 32) (le-leb 1 (length text) a) (le-leb (length text) 32 b)))

  pub too_short : length text < 1 → None ≡ number_of l text
  unfolding number_of
  too_short h = sym (cond-false (within 1 32 (length text)) _ None (and_left (leb 1 (length text)) (leb (length text) 32) (lt-leb 1 (length text) h)))

  pub too_long : 32 < length text → None ≡ number_of l text
  unfolding number_of
  too_long h = sym (cond-false (within 1 32 (length text)) _ None (and_right (leb 1 (length text)) (leb (length text) 32) (lt-leb (length text) 32 h)))
