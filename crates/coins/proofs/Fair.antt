-- Fair: the accepted tries that give a number lie in a row, and each row is as long as any other. Assumes nothing.
use Rattle.std.proofs.Common.{◌≡◌, ℕ, zero, suc, ◌+◌, ◌-◌, ◌*◌, ◌/◌, ◌%◌, ◌^◌, ◌<◌, ◌≤◌, min, Bool, true, false, cond, Some, None, sym, ap, ◌∙◌, ⊎_elim, mul-le-mul_right, mod-lt, suc-mul, mul_comm, add-mul, div-add-mod', div-mul-le_self, arith, pow_pos}
use native.Mathlib.Nat.{div-eq_of_lt-le}
use Rattle.std.proofs.lemmas.Nat.{le-div}
use Rattle.std.proofs.lemmas.Bool.{cond-true, cond-false, lt-ltb, le-ltb, ne_eqb, eq-eqb, cases_lt}
use Rattle.coins.specs.Draws.{width, rejects, share, given_by}
use Rattle.coins.specs.Fair.{passing, is_number, EqualShares, Fair}
use Rattle.coins.proofs.Widths.{log_reaches, log_is_least}

-- a test that is passed by a row of numbers is passed by as many as the row has
passing_row : (test : ℕ → Bool) (lo hi : ℕ) → lo ≤ hi →
    ((v : ℕ) → v < lo → test v ≡ false) → ((v : ℕ) → lo ≤ v → v < hi → test v ≡ true) → ((v : ℕ) → hi ≤ v → test v ≡ false) →
    (n : ℕ) → passing test n ≡ min n hi - min n lo
unfolding passing
passing_row test lo hi l before inside beyond zero = omega arith
passing_row test lo hi l before inside beyond (suc n) =
    let e = passing_row test lo hi l before inside beyond n in
    ⊎_elim
    (λ h. let c : ◌≡◌ {A = ℕ} (cond (test n) 1 0) 0 = cond-false (test n) 1 0 (before n h) in omega arith)
    (λ h. ⊎_elim
    (λ m. let c : ◌≡◌ {A = ℕ} (cond (test n) 1 0) 1 = cond-true (test n) 1 0 (inside n h m) in omega arith)
    (λ m. let c : ◌≡◌ {A = ℕ} (cond (test n) 1 0) 0 = cond-false (test n) 1 0 (beyond n m) in omega arith)
    (cases_lt n hi))
    (cases_lt n lo)

-- the tries v of a bound k that give j: v * k lies from j * w + w % k on, and below (j + 1) * w, which is w / k times k further
abbrev from : ℕ → ℕ → ℕ → ℕ
from k j w = j * w + w % k

abbrev low : ℕ → ℕ → ℕ → ℕ
low k j w = (from k j w + (k - 1)) / k

module _ (k j w : ℕ) (some : 0 < k) where
  span : j * w + w ≡ from k j w + w / k * k
  span = let e = div-add-mod' w k in omega arith

  below_low : (v : ℕ) → v < low k j w → v * k < from k j w
  below_low v h =
      let p = mul-le-mul_right k h in
      let q = div-mul-le_self (from k j w + (k - 1)) k in
      let e = suc-mul v k in
      omega arith

  from_low : (v : ℕ) → low k j w ≤ v → from k j w ≤ v * k
  from_low v h =
      ⊎_elim
      (λ m.
      let e = suc-mul v k in
      let p = le-div (suc v) (from k j w + (k - 1)) k some (omega arith) in
      absurd (omega arith))
      (λ m. m)
      (cases_lt (v * k) (from k j w))

  -- a try past the w / k is a try before it and the w / k more
  past : (v : ℕ) → w / k ≤ v → v * k ≡ (v - w / k) * k + w / k * k
  past v h = let e : v ≡ (v - w / k) + w / k = omega arith in ap (λ n. n * k) e ∙ add-mul (v - w / k) (w / k) k

  below_high : (v : ℕ) → v < low k j w + w / k → v * k < j * w + w
  below_high v h =
      let s = span in
      ⊎_elim
      (λ m. let p = mul-le-mul_right k m in let e = suc-mul v k in omega arith)
      (λ m. let e = past v m in let p = below_low (v - w / k) (omega arith) in omega arith)
      (cases_lt v (w / k))

  from_high : (v : ℕ) → low k j w + w / k ≤ v → j * w + w ≤ v * k
  from_high v h =
      let s = span in
      let e = past v (omega arith) in
      let p = from_low (v - w / k) (omega arith) in
      omega arith

  -- they all lie below w
  room : j < k → low k j w + w / k ≤ w
  room h =
      ⊎_elim
      (λ m.
      let p = below_high w m in
      let q = mul-le-mul_right w h in
      let e = suc-mul j w in
      let f = mul_comm k w in
      absurd (omega arith))
      (λ m. m)
      (cases_lt w (low k j w + w / k))

module _ (k j v : ℕ) where
  parts : share k v * 2 ^ width k + v * k % 2 ^ width k ≡ v * k
  parts = div-add-mod' (v * k) (2 ^ width k)

  at_share : share k v ≡ j → j * 2 ^ width k + v * k % 2 ^ width k ≡ v * k
  at_share e = ap (λ n. n * 2 ^ width k + v * k % 2 ^ width k) (sym e) ∙ parts

  -- a try gives j
  gives : from k j (2 ^ width k) ≤ v * k → v * k < j * 2 ^ width k + 2 ^ width k → is_number j (given_by k v) ≡ true
  gives l h =
      let m = suc-mul j (2 ^ width k) in
      let e : share k v ≡ j = div-eq_of_lt-le {k = j} (2 ^ width k) (omega arith) (omega (arith, add-mul j 1 (2 ^ width k))) in
      let p = at_share e in
      ap (is_number j) (cond-false (rejects k v) None (Some (share k v)) (le-ltb _ _ (omega arith))) ∙ eq-eqb (share k v) j e

  -- a try does not give j
  denies : (share k v ≡ j → 2 ^ width k % k ≤ v * k % 2 ^ width k → ⊥) → is_number j (given_by k v) ≡ false
  denies no_way =
      ⊎_elim
      (λ h. ap (is_number j) (cond-true (rejects k v) None (Some (share k v)) (lt-ltb _ _ h)))
      (λ h. ap (is_number j) (cond-false (rejects k v) None (Some (share k v)) (le-ltb _ _ h)) ∙ ne_eqb (share k v) j (λ e. no_way e h))
      (cases_lt (v * k % 2 ^ width k) (2 ^ width k % k))

  before : v * k < from k j (2 ^ width k) → is_number j (given_by k v) ≡ false
  before h = denies (λ e m. let p = at_share e in omega arith)

  beyond : j * 2 ^ width k + 2 ^ width k ≤ v * k → is_number j (given_by k v) ≡ false
  beyond h = denies (λ e m. let p = at_share e in let q = mod-lt (v * k) (pow_pos (width k)) in omega arith)

equal_shares : (k : ℕ) → 0 < k → EqualShares k
equal_shares k some j small =
    let w = 2 ^ width k in
    let lo = low k j w in
    let q = w / k in
    let e = passing_row (λ v. is_number j (given_by k v)) lo (lo + q) (omega arith)
    (λ v h. before k j v (below_low k j w some v h))
    (λ v l h. gives k j v (from_low k j w some v l) (below_high k j w some v h))
    (λ v h. beyond k j v (from_high k j w some v h)) w in
    let r = room k j w some small in
    e ∙ omega arith

pub fair : Fair
fair = record { exponents = λ k. record { reaches = log_reaches k; least = log_is_least k }; shares = equal_shares }
