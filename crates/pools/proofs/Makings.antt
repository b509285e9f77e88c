-- Makings: one box after the other. Assumes nothing.
use Rattle.std.proofs.Common.{◌≡◌, ℕ, suc, ◌+◌, ◌-◌, ◌<◌, ◌≤◌, ◌&&◌, leb, List, [], ◌∷◌, ◌++◌, drop, Ok, Err, Result, sym, refl, ap, ◌∙◌, add-zero, add_assoc, zero-add, arith}
use Rattle.std.proofs.lemmas.List.{append_assoc, append-nil, drop-drop}
use Rattle.std.proofs.lemmas.Bool.{cond-true, cond-false, le-leb, lt-leb, and_from, and_left, and_right}
use Rattle.faults.specs.declared.fault.Cause.TheVariants.{Range}
use Rattle.faults.specs.declared.fault.Fault.{Fault}
use Rattle.faults.specs.Faults.{own, placed, deeper}
use Rattle.coins.specs.Boxes.{making}
use Rattle.coins.specs.Coins.{Outcome, refusal, after}
use Rattle.coins.proofs.Draws.{cong_outcome}
use Rattle.coins.proofs.Takes.{leaves}
use Rattle.pools.specs.Shuffled.{before, next_box, makings, pooling}

-- boxes made, with those and the coins that came before them
abbrev joined_to : List (List ℕ) → Result (List (List ℕ)) Fault → Result (List (List ℕ)) Fault
joined_to rows (Ok boxes) = Ok (rows ++ boxes)
joined_to rows (Err f) = Err f

pub onto : List (List ℕ) → ℕ → Outcome (List (List ℕ)) → Outcome (List (List ℕ))
onto rows taken o = record { answer = joined_to rows o.answer; gone = taken + o.gone }

joined_none : (r : Result (List (List ℕ)) Fault) → joined_to [] r ≡ r
joined_none (Ok boxes) = refl
joined_none (Err f) = refl

joined_more : (rows : List (List ℕ)) (box : List ℕ) (r : Result (List (List ℕ)) Fault) → joined_to (rows ++ box ∷ []) r ≡ joined_to rows (before box r)
joined_more rows box (Ok boxes) = ap Ok (append_assoc rows (box ∷ []) boxes)
joined_more rows box (Err f) = refl

-- at box n: the boxes below are made, and their coins are gone
pub record Pooling (whole : Outcome (List (List ℕ))) (coins : List ℕ) (a n : ℕ) (rows : List (List ℕ)) (rest : List ℕ) : Type 0 where
  pub taken : ℕ
  pub goes : onto rows taken (makings a n (256 - n) rest) ≡ whole
  pub waits : rest ≡ drop taken coins

pub pooling_none : (a : ℕ) (coins : List ℕ) → Pooling (makings a 0 256 coins) coins a 0 [] coins
unfolding onto
pooling_none a coins =
    record { taken = 0; goes = cong_outcome (joined_none (makings a 0 256 coins).answer) (zero-add (makings a 0 256 coins).gone); waits = refl }

module _ {whole : Outcome (List (List ℕ))} {coins : List ℕ} {a n : ℕ} {rows : List (List ℕ)} {rest : List ℕ} (p : Pooling whole coins a n rows rest) where
  pub pooling_done : 256 ≤ n → whole ≡ record { answer = Ok rows; gone = p.taken }
  unfolding onto makings
  pooling_done h =
      let e : 256 - n ≡ 0 = omega arith in
      sym p.goes ∙ ap (λ m. onto rows p.taken (makings a n m rest)) e ∙ cong_outcome (ap Ok (append-nil rows)) (add-zero p.taken)

  module _ (h : n < 256) where
    more : 256 - n ≡ suc (256 - (n + 1))
    more = omega arith

    -- a box is made
    pub pooling_more : (box : List ℕ) (gone : ℕ) → making a rest ≡ record { answer = Ok box; gone = gone } →
        Pooling whole coins a (n + 1) (rows ++ box ∷ []) (after (making a rest) rest)
    unfolding onto makings
    pooling_more box gone e =
        let left : after (making a rest) rest ≡ drop gone rest = leaves rest e in
        let s : suc n ≡ n + 1 = omega arith in
        let m = makings a (n + 1) (256 - (n + 1)) (after (making a rest) rest) in
        let one : makings a n (256 - n) rest ≡ next_box n (making a rest).answer (making a rest).gone m =
        ap (λ k. makings a n k rest) more ∙
        ap (λ k. next_box n (making a rest).answer (making a rest).gone (makings a k (256 - (n + 1)) (after (making a rest) rest))) s in
        let two : next_box n (making a rest).answer (making a rest).gone m ≡ record { answer = before box m.answer; gone = gone + m.gone } =
        ap (λ o. next_box n o.answer o.gone m) e in
        record {
          taken = p.taken + gone;
          goes =
              cong_outcome (joined_more rows box m.answer) (add_assoc p.taken gone m.gone) ∙
              ap (onto rows p.taken) (sym (one ∙ two)) ∙ p.goes;
          waits = left ∙ ap (drop gone) p.waits ∙ drop-drop gone p.taken coins;
        }

    -- the coins are too few for a box
    pub pooling_short : (f : Fault) → (making a rest).answer ≡ Err f →
        whole ≡ record { answer = Err (placed (deeper f) n); gone = p.taken + (making a rest).gone }
    unfolding onto makings
    pooling_short f e =
        sym p.goes ∙ ap (λ k. onto rows p.taken (makings a n k rest)) more ∙
        ap (λ r. onto rows p.taken (next_box n r (making a rest).gone (makings a (suc n) (256 - (n + 1)) (after (making a rest) rest)))) e

    pub short_left : (f : Fault) → (making a rest).answer ≡ Err f → after (making a rest) rest ≡ after whole coins
    short_left f e =
        ap (drop (making a rest).gone) p.waits ∙ drop-drop (making a rest).gone p.taken coins ∙ sym (leaves coins (pooling_short f e))

-- the bounds of a pool
module _ (a : ℕ) (coins : List ℕ) where
  pub pool_low : a < 4 → pooling a coins ≡ refusal (own Range)
  unfolding pooling
  pool_low h = cond-false (leb 4 a && leb a 64) _ _ (and_left _ _ (lt-leb 4 a h))

  pub pool_high : 64 < a → pooling a coins ≡ refusal (own Range)
  unfolding pooling
  pool_high h = cond-false (leb 4 a && leb a 64) _ _ (and_right _ _ (lt-leb a 64 h))

  pub pool_within : 4 ≤ a → a ≤ 64 → pooling a coins ≡ makings a 0 256 coins
  unfolding pooling
  pool_within l h = cond-true (leb 4 a && leb a 64) _ _ (and_from _ _ (le-leb 4 a l) (le-leb a 64 h))
