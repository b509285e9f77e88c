-- Swaps: one drawn swap after the other. Assumes nothing.
use Rattle.std.proofs.Common.{◌≡◌, ℕ, zero, suc, ◌+◌, ◌-◌, ◌^◌, ◌<◌, ◌≤◌, ◌&&◌, leb, ◌⊎◌, List, length, drop, Some, None, Ok, Err, Result, sym, refl, ap, ◌∙◌, subst, inl, inr, ⊎_elim, zero-le, add_assoc, zero-add, arith}
use Rattle.std.specs.List.{range_with_len}
use Rattle.std.proofs.lemmas.List.{drop-drop, length-drop}
use Rattle.std.proofs.lemmas.Bool.{cond-true, cond-false, le-leb, lt-leb, cases_Bool, and_from, and_left, and_right}
use Rattle.faults.specs.declared.fault.Cause.TheVariants.{Range}
use Rattle.faults.specs.declared.fault.Fault.{Fault}
use Rattle.faults.specs.Faults.{own, deeper}
use Rattle.faults.proofs.Variants.{some≢none, same_some}
use Rattle.coins.specs.Sboxes.{unmoved}
use Rattle.coins.specs.Boxes.{swapped, and_then, swaps, making}
use Rattle.coins.specs.Coins.{Bits, Outcome, refusal, after, with_count, counted}
use Rattle.coins.specs.Draws.{drawing}
use Rattle.coins.proofs.Draws.{cong_outcome, drawn_within}
use Rattle.coins.proofs.Takes.{leaves}

-- a counted answer says what the outcome was
with_count_ok : {A : Type 0} (r : Result A Fault) (g : ℕ) (x : A) (n : ℕ) → Ok (x, n) ≡ with_count r g → (r ≡ Ok x) × (g ≡ n)
with_count_ok {A} (Ok y) g x n e =
    let p : ◌≡◌ {A = A × ℕ} (y, g) (x, n) = cc in (ap (λ z. Ok z.0) p, ap (λ z. z.1) p)
with_count_ok (Err f) g x n e = let z : ◌≡◌ {A = ℕ} 0 1 = cc in absurd (omega arith)

with_count_err : {A : Type 0} (r : Result A Fault) (g : ℕ) (f : Fault) → Err f ≡ with_count r g → r ≡ Err f
with_count_err (Ok y) g f e = let z : ◌≡◌ {A = ℕ} 0 1 = cc in absurd (omega arith)
with_count_err (Err h) g f e = cc

pub counted_ok : {A : Type 0} (o : Outcome A) (x : A) (n : ℕ) → Ok (x, n) ≡ counted o → o ≡ record { answer = Ok x; gone = n }
counted_ok o x n e = let p = with_count_ok o.answer o.gone x n e in cong_outcome p.0 p.1

pub counted_err : {A : Type 0} (o : Outcome A) (f : Fault) → Err f ≡ counted o → o ≡ record { answer = Err f; gone = o.gone }
counted_err o f e = cong_outcome (with_count_err o.answer o.gone f e) refl

-- an outcome, with coins that were taken before it
pub ahead : {A : Type 0} → ℕ → Outcome A → Outcome A
ahead n o = record { answer = o.answer; gone = n + o.gone }

-- one swap, and then the others
swaps_one : (i : ℕ) (table rest : List ℕ) (j n : ℕ) → 1 ≤ i → drawing (i + 1) rest ≡ record { answer = Ok j; gone = n } →
    swaps i table rest ≡ ahead n (swaps (i - 1) (swapped table i j) (drop n rest))
unfolding swaps ahead
swaps_one zero table rest j n h e = absurd (omega arith)
swaps_one (suc q) table rest j n h e =
    let f : suc q + 1 ≡ suc (suc q) = omega arith in
    let g : q ≡ suc q - 1 = omega arith in
    ap (λ o. and_then o (λ j. swaps q (swapped table (suc q) j) (after o rest))) (ap (λ k. drawing k rest) (sym f) ∙ e) ∙
    ap (λ m. ahead n (swaps m (swapped table (suc q) j) (drop n rest))) g

swaps_short : (i : ℕ) (table rest : List ℕ) (f : Fault) (n : ℕ) → 1 ≤ i → drawing (i + 1) rest ≡ record { answer = Err f; gone = n } →
    swaps i table rest ≡ record { answer = Err (deeper f); gone = n }
unfolding swaps
swaps_short zero table rest f n h e = absurd (omega arith)
swaps_short (suc q) table rest f n h e =
    let g : suc q + 1 ≡ suc (suc q) = omega arith in
    ap (λ o. and_then o (λ j. swaps q (swapped table (suc q) j) (after o rest))) (ap (λ k. drawing k rest) (sym g) ∙ e)

ahead_ahead : {A : Type 0} (m n : ℕ) (o : Outcome A) → ahead m (ahead n o) ≡ ahead (m + n) o
unfolding ahead
ahead_ahead m n o = cong_outcome refl (sym (add_assoc m n o.gone))

-- a shuffle from place `start` down, at the start of a turn: places i and below are to come
pub record Shuffling (start : ℕ) (whole : Outcome (List ℕ)) (coins : List ℕ) (i : ℕ) (table rest : List ℕ) (taken : ℕ) : Type 0 where
  pub goes : ahead taken (swaps i table rest) ≡ whole
  pub waits : rest ≡ drop taken coins
  pub within : taken ≤ length coins
  pub bits : ((i ≡ start) × (taken ≡ 0)) ⊎ Bits coins

pub shuffling_none : (i : ℕ) (table coins : List ℕ) → Shuffling i (swaps i table coins) coins i table coins 0
unfolding ahead
shuffling_none i table coins = record { goes = cong_outcome refl (zero-add _); waits = refl; within = zero-le; bits = inl (refl, refl) }

module _ {start : ℕ} {whole : Outcome (List ℕ)} {coins : List ℕ} {i : ℕ} {table rest : List ℕ} {taken : ℕ}
    (t : Shuffling start whole coins i table rest taken) where
  -- at the end
  pub shuffle_done : i ≡ 0 → whole ≡ record { answer = Ok table; gone = taken }
  unfolding swaps ahead
  shuffle_done e = sym t.goes ∙ ap (λ n. ahead taken (swaps n table rest)) e ∙ cong_outcome refl (omega arith)

  pub shuffle_bits : i < start → Bits coins
  shuffle_bits h = ⊎_elim (λ e. absurd (omega (arith, e.0))) (λ b. b) t.bits

  all_bits : Bits rest → Bits coins
  all_bits b = ⊎_elim (λ e. subst Bits (t.waits ∙ ap (λ n. drop n coins) e.1) b) (λ c. c) t.bits

  long : length rest + taken ≡ length coins
  long = let w = t.within in omega (arith, ap length t.waits ∙ length-drop taken coins)

  -- a good draw
  module _ (j n : ℕ) (some : 1 ≤ i) (good : Ok (j, n) ≡ counted (drawing (i + 1) rest)) where
    drawn : drawing (i + 1) rest ≡ record { answer = Ok j; gone = n }
    drawn = counted_ok (drawing (i + 1) rest) j n good

    room : taken + n ≤ length coins
    room =
        let l = long in
        let d = drawn_within (i + 1) rest in
        omega (arith, ap (λ o. o.gone) drawn)

    pub shuffle_fits : Bits rest → taken + n < 2 ^ 128
    shuffle_fits b = let r = room in omega (arith, (all_bits b).countable)

    pub shuffle_more : Bits rest → Shuffling start whole coins (i - 1) (swapped table i j) (after (drawing (i + 1) rest) rest) (taken + n)
    shuffle_more b =
        let left : after (drawing (i + 1) rest) rest ≡ drop n rest = leaves rest drawn in
        record {
          goes =
              ap (λ l. ahead (taken + n) (swaps (i - 1) (swapped table i j) l)) left ∙
              sym (ahead_ahead taken n (swaps (i - 1) (swapped table i j) (drop n rest))) ∙
              ap (ahead taken) (sym (swaps_one i table rest j n some drawn)) ∙ t.goes;
          waits = left ∙ ap (drop n) t.waits ∙ drop-drop n taken coins;
          within = room;
          bits = inr (all_bits b);
        }

  -- too few coins
  module _ (f : Fault) (some : 1 ≤ i) (bad : Err f ≡ counted (drawing (i + 1) rest)) where
    pub shuffle_short : whole ≡ record { answer = Err (deeper f); gone = taken + (drawing (i + 1) rest).gone }
    unfolding ahead
    shuffle_short =
        sym t.goes ∙ ap (ahead taken) (swaps_short i table rest f (drawing (i + 1) rest).gone some (counted_err (drawing (i + 1) rest) f bad))

    pub short_left : after (drawing (i + 1) rest) rest ≡ after whole coins
    short_left =
        ap (drop (drawing (i + 1) rest).gone) t.waits ∙ drop-drop (drawing (i + 1) rest).gone taken coins ∙ sym (leaves coins shuffle_short)

-- the bounds of a box
module _ (a : ℕ) (coins : List ℕ) where
  pub make_low : a < 2 → making a coins ≡ refusal (own Range)
  unfolding making
  make_low h = cond-false (leb 2 a && leb a 4096) _ _ (and_left _ _ (lt-leb 2 a h))

  pub make_high : 4096 < a → making a coins ≡ refusal (own Range)
  unfolding making
  make_high h = cond-false (leb 2 a && leb a 4096) _ _ (and_right _ _ (lt-leb a 4096 h))

  pub make_within : 2 ≤ a → a ≤ 4096 → making a coins ≡ swaps (a - 1) (range_with_len 0 a) coins
  unfolding making
  make_within l h = cond-true (leb 2 a && leb a 4096) _ _ (and_from _ _ (le-leb 2 a l) (le-leb a 4096 h))

  -- the box that stays as it is is where a box starts
  pub make_from : (table : List ℕ) → Some table ≡ unmoved a → swaps (a - 1) table coins ≡ making a coins
  unfolding making
  make_from table e =
      ⊎_elim
      (λ t. ap (λ l. swaps (a - 1) l coins) (same_some table (range_with_len 0 a) (e ∙ cond-true _ _ None t)) ∙ sym (cond-true _ _ _ t))
      (λ f. absurd (some≢none table (e ∙ cond-false _ (Some (range_with_len 0 a)) _ f)))
      (cases_Bool (leb 2 a && leb a 4096))
