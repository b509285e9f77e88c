-- Widths: how many coins a try takes. Assumes nothing.
use Rattle.std.proofs.Common.{◌≡◌, ℕ, zero, suc, ◌+◌, ◌*◌, ◌/◌, ◌%◌, ◌^◌, max, ◌<◌, ◌≤◌, leb, refl, ap, ◌∙◌, ⊎_elim, pow-suc, arith, lit<, pow_mono}
use native.Mathlib.Nat.{pow-zero}
use Rattle.std.proofs.lemmas.Nat.{one_shl}
use Rattle.std.proofs.lemmas.Bool.{cond-true, cond-false, le-leb, lt-leb, cases_lt}
use Rattle.coins.specs.Draws.{least_from, log2_up, width}

pub below_power : (e : ℕ) → e < 2 ^ e
below_power zero = lit< tt
below_power (suc e) = let h = below_power e in rw (pow-suc 2 e) (omega arith)

module _ (k e : ℕ) where
  -- the search stops at the first power that reaches
  pub least_here : (more : ℕ) → k ≤ 2 ^ e → least_from k e more ≡ e
  unfolding least_from
  least_here zero h = refl
  least_here (suc more) h = cond-true (leb k (2 ^ e)) _ _ (le-leb k (2 ^ e) h)

  -- and goes on past one that does not
  pub least_past : (more : ℕ) → 2 ^ e < k → least_from k e (suc more) ≡ least_from k (suc e) more
  unfolding least_from
  least_past more h = cond-false (leb k (2 ^ e)) _ _ (lt-leb k (2 ^ e) h)

least_reaches : (k e more : ℕ) → k ≤ e + more → k ≤ 2 ^ least_from k e more
least_reaches k e zero h = let p = below_power e in rw (least_here k e zero (omega arith)) (omega arith)
least_reaches k e (suc more) h =
    ⊎_elim
    (λ l. rw (least_past k e more l) (least_reaches k (suc e) more (omega arith)))
    (λ l. rw (least_here k e (suc more) l) l)
    (cases_lt (2 ^ e) k)

pub least_is_least : (k e more to : ℕ) → e ≤ to → k ≤ 2 ^ to → least_from k e more ≤ to
unfolding least_from
least_is_least k e zero to l h = l
least_is_least k e (suc more) to l h =
    ⊎_elim
    (λ m. rw (least_past k e more m) (least_is_least k (suc e) more to (above m) h))
    (λ m. rw (least_here k e (suc more) m) l)
    (cases_lt (2 ^ e) k)
  where
    above : 2 ^ e < k → suc e ≤ to
    above m = ⊎_elim (λ n. omega arith) (λ n. let p = pow_mono {i = to} {j = e} n in absurd (omega arith)) (cases_lt e to)

pub log_reaches : (k : ℕ) → k ≤ 2 ^ log2_up k
unfolding log2_up
log_reaches k = least_reaches k 0 k (omega arith)

pub log_is_least : (k e : ℕ) → k ≤ 2 ^ e → log2_up k ≤ e
unfolding log2_up
log_is_least k e h = least_is_least k 0 k e (omega arith) h

pub width_least : (k : ℕ) → 4 ≤ width k
unfolding width
width_least k = omega arith

pub width_most : (k : ℕ) → k ≤ 4096 → width k ≤ 16
unfolding width
width_most k h = omega (arith, log_is_least k 12 h)

-- the exponent of the next power of two
pub width_found : (k p e r : ℕ) → 2 ≤ k → p ≡ 2 ^ e → k ≤ p → p / 2 < max 1 k → 2 ^ r ≤ p → p < 2 * 2 ^ r → r + 4 ≡ width k
unfolding width
width_found k p zero r some power reaches next low high = absurd (omega (arith, pow-zero 2))
width_found k p (suc d) r some power reaches next low high =
    let double : 2 ^ suc d ≡ 2 ^ d * 2 = pow-suc 2 d in
    let double' : 2 ^ suc r ≡ 2 ^ r * 2 = pow-suc 2 r in
    let least = log_is_least k (suc d) (omega arith) in
    let reached = log_reaches k in
    let most : suc d ≤ log2_up k =
    ⊎_elim (λ h. let m = pow_mono {i = log2_up k} {j = d} (omega arith) in absurd (omega arith)) (λ h. h) (cases_lt (log2_up k) (suc d)) in
    let above : suc d ≤ r =
    ⊎_elim (λ h. let m = pow_mono {i = suc r} {j = suc d} h in absurd (omega arith)) (λ h. h) (cases_lt r (suc d)) in
    let below : r ≤ suc d =
    ⊎_elim (λ h. let m = pow_mono {i = suc (suc d)} {j = r} h in let t : 2 ^ suc (suc d) ≡ 2 ^ suc d * 2 = pow-suc 2 (suc d) in absurd (omega arith)) (λ h. h) (cases_lt (suc d) r) in
    omega arith

-- the power that a try is cut at, as a shift makes it
pub try_power : (k count : ℕ) → k ≤ 4096 → count ≡ width k → 1 * 2 ^ count % 4294967296 ≡ 2 ^ width k
try_power k count h e = one_shl count 32 (omega (arith, width_most k h)) ∙ ap (λ n. 2 ^ n) e
