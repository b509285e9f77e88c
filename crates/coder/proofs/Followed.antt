-- What the calls of a coder give follows the reference machine. Assumes nothing.
use Rattle.std.proofs.Common.{◌≡◌, ℕ, List, [], ◌++◌, length, take, Ok, Err, Option, Result, sym, refl, ap, ◌∙◌, subst}
use Rattle.std.proofs.lemmas.List.{take_at}
use Rattle.std.proofs.lemmas.Bool.{true≢false, cond-false}
use Rattle.faults.specs.declared.fault.Fault.{Fault}
use Rattle.ciphers.specs.declared.way.Way.{Way}
use Rattle.ciphers.specs.declared.way.Way.TheVariants.{Forward, Backward}
use Rattle.ciphers.specs.Meanings.{Meaning}
use Rattle.ciphers.specs.Swaps.{Outcome, refused, answer, left}
use Rattle.ciphers.specs.Ways.{map_of}
use Rattle.coder.specs.declared.coder.Coder.{Coder}
use Rattle.coder.specs.Called.{Called}
use Rattle.coder.specs.Calls.{Call, starts, ends, masks, unmasks, restarts, turns, text_of, Reply, said, accepted, done}
use Rattle.coder.specs.Handed.{Existing}
use Rattle.coder.specs.Machine.{Held, on_lane, if_held}
use Rattle.coder.specs.Steps.{lane_at, asked_text, lanes_after, stepped}
use Rattle.coder.proofs.Handed.{follows_by}

abbrev pub replied : Result Unit Fault → List ℕ → Reply
replied r t = record { answer = r; text = t }

-- a refused call leaves the lanes as they were
still_lanes : (m : Meaning) (lanes : List (Option Held)) (c : Call) (fault : Fault) → (stepped m lanes c).outcome ≡ refused fault → (stepped m lanes c).lanes ≡ lanes
still_lanes m lanes (starts k run f) fault e = let q = ap accepted e in cond-false _ _ lanes q
still_lanes m lanes (ends k) fault e = let q = ap accepted e in cond-false _ _ lanes q
still_lanes m lanes (masks k t) fault e = refl
still_lanes m lanes (unmasks k t) fault e = refl
still_lanes m lanes restarts fault e = absurd (true≢false (ap accepted e))

module _ {T : Type 0} (meaning : T → Meaning) (before : Coder T) where
  abbrev gives : Call → Outcome
  gives c = (stepped (meaning before.cipher) before.lanes c).outcome

  pub called : (after : Coder T) (c : Call) (r : Reply) → Existing c → r ≡ said c (gives c) → after.lanes ≡ (stepped (meaning before.cipher) before.lanes c).lanes → meaning after.cipher ≡ meaning before.cipher →
      Called meaning before after c r
  called after c r exists reply lanes same = record {
    reply = reply;
    lanes = lanes;
    same = same;
    follows = follows_by (meaning before.cipher) before.lanes after.lanes c r exists lanes reply;
  }

  pub refused_call : (c : Call) (r : Result Unit Fault) (fault : Fault) → Existing c → r ≡ Err fault → gives c ≡ refused fault → Called meaning before before c (replied r (text_of c))
  refused_call c r fault exists is e =
      called before c (replied r (text_of c)) exists (ap (λ x. replied x (text_of c)) is ∙ sym (ap (said c) e)) (sym (still_lanes (meaning before.cipher) before.lanes c fault e)) refl

  pub done_call : (after : Coder T) (c : Call) → Existing c → gives c ≡ done → after.lanes ≡ lanes_after done before.lanes c → meaning after.cipher ≡ meaning before.cipher →
      Called meaning before after c (replied (Ok tt) [])
  done_call after c exists e lanes same =
      called after c (replied (Ok tt) []) exists (sym (ap (said c) e)) (lanes ∙ sym (ap (λ o. lanes_after o before.lanes c) e)) same

  -- a mask or an unmask
  pub turned : (after : Coder T) (way : Way) (k : ℕ) (t : List ℕ) (r : Result Unit Fault) (s : List ℕ) →
      let o = on_lane k (if_held (lane_at before.lanes k) (asked_text (meaning before.cipher) (map_of (meaning before.cipher) way) t)) in
      r ≡ answer o → s ≡ left o t → after.lanes ≡ before.lanes → meaning after.cipher ≡ meaning before.cipher → Called meaning before after (turns way k t) (replied r s)
  turned after Forward k t r s e f lanes same = called after (masks k t) (replied r s) tt (cc) lanes same
  turned after Backward k t r s e f lanes same = called after (unmasks k t) (replied r s) tt (cc) lanes same

  pub refused_turn : (way : Way) (k : ℕ) (t : List ℕ) (r : Result Unit Fault) (fault : Fault) → r ≡ Err fault →
      on_lane k (if_held (lane_at before.lanes k) (asked_text (meaning before.cipher) (map_of (meaning before.cipher) way) t)) ≡ refused fault →
      Called meaning before before (turns way k t) (replied r t)
  refused_turn Forward k t r fault is e = refused_call (masks k t) r fault tt is e
  refused_turn Backward k t r fault is e = refused_call (unmasks k t) r fault tt is e

-- the same of a call and a text that are equal to these
pub carried : {T : Type 0} {meaning : T → Meaning} {a b : Coder T} (c d : Call) (r : Result Unit Fault) (s t : List ℕ) → c ≡ d → s ≡ t → Called meaning a b d (replied r t) → Called meaning a b c (replied r s)
carried {T} {meaning} {a} {b} c d r s t e same f =
    let P : Call → Type 0 = λ x. Called meaning a b x (replied r s) in
    let Q : List ℕ → Type 0 = λ x. Called meaning a b d (replied r x) in
    subst P (sym e) (subst Q (sym same) f)

-- a text that was swapped in a vector
pub in_vec : (n : ℕ) (was now rest : List ℕ) → length now ≡ length was → length was ≡ n → take n (now ++ rest) ≡ now
in_vec n was now rest e f = take_at now rest n (e ∙ f)
