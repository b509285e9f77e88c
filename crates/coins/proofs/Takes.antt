-- Takes: what a take comes to on each of its ways. Assumes nothing.
use Rattle.std.proofs.Common.{◌≡◌, ℕ, ◌^◌, ◌<◌, ◌≤◌, ◌&&◌, leb, List, length, take, drop, Ok, Err, ap, ◌∙◌, ⊎_elim, arith}
use Rattle.std.proofs.ByRecursion.{All-drop}
use Rattle.std.proofs.lemmas.List.{length-drop}
use Rattle.std.proofs.lemmas.Bool.{cond-true, cond-false, le-leb, lt-leb, and_from, and_left, and_right, cases_lt}
use Rattle.faults.specs.declared.fault.Cause.TheVariants.{Range, CoinsShort}
use Rattle.faults.specs.declared.fault.Fault.{Fault}
use Rattle.faults.specs.Faults.{own}
use Rattle.coins.specs.Coins.{Bits, number, bits_of, refusal, Outcome, taking, after}
use Rattle.coins.proofs.Bits.{length_bits_of, bits_below}

-- the parts of an outcome that is known
pub answers : {A : Type 0} {o p : Outcome A} → o ≡ p → o.answer ≡ p.answer
answers e = ap (λ o. o.answer) e

pub leaves : {A : Type 0} {o p : Outcome A} (coins : List ℕ) → o ≡ p → after o coins ≡ after p coins
leaves coins e = ap (λ o. after o coins) e

module _ (count : ℕ) (coins : List ℕ) where
  pub take_none : count < 1 → taking count coins ≡ refusal (own Range)
  take_none h = cond-false (leb 1 count && leb count 16) _ _ (and_left _ _ (lt-leb 1 count h))

  pub take_many : 16 < count → taking count coins ≡ refusal (own Range)
  take_many h = cond-false (leb 1 count && leb count 16) _ _ (and_right _ _ (lt-leb count 16 h))

  pub take_short : 1 ≤ count → count ≤ 16 → length coins < count → taking count coins ≡ refusal (own CoinsShort)
  take_short l m h =
      cond-true (leb 1 count && leb count 16) _ _ (and_from _ _ (le-leb 1 count l) (le-leb count 16 m)) ∙
      cond-false (leb count (length coins)) _ _ (lt-leb count (length coins) h)

  pub take_good : 1 ≤ count → count ≤ 16 → count ≤ length coins →
      taking count coins ≡ record { answer = Ok (number (take count coins)); gone = count }
  take_good l m h =
      cond-true (leb 1 count && leb count 16) _ _ (and_from _ _ (le-leb 1 count l) (le-leb count 16 m)) ∙
      cond-true (leb count (length coins)) _ _ (le-leb count (length coins) h)

  -- what a take of a right count says of the coins, by its answer
  module _ (least : 1 ≤ count) (most : count ≤ 16) where
    pub taken_good : (v : ℕ) → Ok v ≡ (taking count coins).answer →
        (count ≤ length coins) × (v ≡ number (take count coins)) × (after (taking count coins) coins ≡ drop count coins)
    taken_good v e =
        ⊎_elim
        (λ h. let f = answers (take_short least most h) in let z : ◌≡◌ {A = ℕ} 0 1 = cc in absurd (omega arith))
        (λ h. let f = answers (take_good least most h) in (h, (cc), leaves coins (take_good least most h)))
        (cases_lt (length coins) count)

    pub taken_short : (f : Fault) → Err f ≡ (taking count coins).answer →
        (length coins < count) × (f ≡ own CoinsShort) × (after (taking count coins) coins ≡ coins)
    taken_short x e =
        ⊎_elim
        (λ h. let f = answers (take_short least most h) in (h, (cc), leaves coins (take_short least most h)))
        (λ h. let f = answers (take_good least most h) in let z : ◌≡◌ {A = ℕ} 0 1 = cc in absurd (omega arith))
        (cases_lt (length coins) count)

-- the coins of bytes from a place on
module _ (bs : List ℕ) (pos : ℕ) where
  pub byte_coins_bits : length bs < 2 ^ 64 → Bits (drop pos (bits_of bs))
  byte_coins_bits h =
      record { each = All-drop (λ b. b < 2) pos (bits_of bs) (bits_below bs); countable = simp (length-drop, length_bits_of) (omega arith) }
