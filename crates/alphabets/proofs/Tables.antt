-- A rule that a test decides, proved at every number below a bound by one computation. Assumes nothing.
use Rattle.std.proofs.Common.{◌≡◌, ℕ, zero, suc, ◌<◌, Bool, true, false, ◌&&◌, eqb, Some, None, Option, sym, refl, ap, subst, inl, inr, le_of_suc-le-suc, not-suc-le-zero, eq-or-lt_of_le}
use Rattle.std.proofs.lemmas.Bool.{eqb-true, and_parts, false≢true}

-- the test f passes at each number below n
abbrev pub all_below : (ℕ → Bool) → ℕ → Bool
all_below f zero = true
all_below f (suc n) = f n && all_below f n

pub at_below : (f : ℕ → Bool) (n : ℕ) → all_below f n ≡ true → (k : ℕ) → k < n → f k ≡ true
at_below f zero e k h = absurd (not-suc-le-zero h)
at_below f (suc n) e k h =
    let parts = and_parts (f n) (all_below f n) e in
    elim (eq-or-lt_of_le (le_of_suc-le-suc h)) [
      | inl same ↦ subst (λ (m : ℕ). f m ≡ true) (sym same) parts.0
      | inr less ↦ at_below f n parts.1 k less
    ]

abbrev pub alike : Option ℕ → Option ℕ → Bool
alike None None = true
alike None (Some y) = false
alike (Some x) None = false
alike (Some x) (Some y) = eqb x y

pub alike_equal : (o p : Option ℕ) → alike o p ≡ true → o ≡ p
alike_equal None None e = refl
alike_equal None (Some y) e = absurd (false≢true e)
alike_equal (Some x) None e = absurd (false≢true e)
alike_equal (Some x) (Some y) e = ap Some (eqb-true x y e)
