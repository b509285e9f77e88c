-- What hands a coder on through its calls. Assumes nothing.
use Rattle.std.proofs.Common.{◌≡◌, ℕ, zero, suc, ◌-◌, ◌<◌, ◌≤◌, Bool, true, false, cond, ◌&&◌, eqb, leb, ◌⊎◌, List, [], ◌∷◌, length, get_or, set, replicate, Some, None, Ok, Err, Option, Result, sym, refl, ap, ◌∙◌, subst, inl, inr, arith, length-set, get_or-set_other, get_or-set_same}
use Rattle.std.proofs.lemmas.Bool.{true≢false, cases_Bool, cases_eq, and_parts, and_from, and_left, and_right, leb-true, eq-eqb, ne_eqb, cond-true, cond-false}
use Rattle.alphabets.specs.declared.alphabet.Alphabet.{Alphabet}
use Rattle.faults.specs.declared.fault.Cause.TheVariants.{Lane, RunName, ShapeNotTaken}
use Rattle.faults.specs.declared.fault.Fault.{Fault}
use Rattle.formats.specs.declared.shape.Shape.{Shape}
use Rattle.formats.specs.Codes.{Code, text_verdict, as_symbols, as_bytes}
use Rattle.faults.specs.Faults.{own}
use Rattle.formats.specs.Forms.{Form, remade}
use Rattle.alphabets.specs.RunNames.{legal}
use Rattle.formats.specs.Shapes.{form}
use Rattle.formats.proofs.Limits.{form_exists, bounded}
use Rattle.formats.proofs.Texts.{back_and_forth}
use Rattle.faults.proofs.Variants.{none≢some, same_some}
use Rattle.ciphers.specs.Meanings.{Meaning}
use Rattle.ciphers.specs.Swaps.{Outcome, refused, unless_refused, unless_barred, barred_past, swap}
use Rattle.ciphers.proofs.Checked.{passing, swap_checked}
use Rattle.coder.specs.Calls.{Call, starts, ends, masks, unmasks, restarts, Reply, said, accepted, done}
use Rattle.coder.specs.Handed.{Sound, Through, Follows, Existing}
use Rattle.coder.specs.Machine.{Held, held_of, is_lane, on_lane, if_free, if_held, swapped_text, outcome, held, reply}
use Rattle.coder.specs.Steps.{lane_at, rebuilt, passed_on, asked_text, lanes_after, stepped}

-- every shape can be made again
pub remakes : (s : Shape) → remade (form s) ≡ Ok (form s)
remakes s = (bounded (form s)).within (form_exists s)

pub cases_result : (r : Result Unit Fault) → (r ≡ Ok tt) ⊎ ((e : Fault) × (r ≡ Err e))
cases_result (Ok u) = inl refl
cases_result (Err e) = inr (e, refl)

-- a text that is read as a code
pub read_code : (f : Form) (t : List ℕ) → text_verdict f t ≡ Ok tt → Code f (as_symbols f.alphabet t)
read_code f t e = (back_and_forth f).symbols t ((back_and_forth f).only_texts t e)

-- a bar, as the coder passes it on
barred_on : (a : Alphabet) (b : Option ℕ) (image : List ℕ) → passed_on a (unless_barred b image) ≡ unless_barred (barred_past b) (as_bytes a image)
barred_on a None image = refl
barred_on a (Some depth) image = refl

-- what a cipher gives under a sound record is what the reference machine gives
pub asked_is_swapped : (m : Meaning) (go : Form → List ℕ → List ℕ → List ℕ) (t : List ℕ) (u : Held) → Sound m u → asked_text m go t u ≡ swapped_text m go t u
unfolding asked_text swapped_text
asked_is_swapped m go t u s =
    let f = u.shape in
    let a = f.alphabet in
    let c = as_symbols a t in
    let asked : Form → Outcome = λ g. unless_refused (text_verdict g t) (passed_on g.alphabet (swap m go g u.run (as_symbols g.alphabet t))) in
    let image = unless_barred (barred_past (m.barred f c)) (as_bytes a (go f u.run c)) in
    ap (λ r. rebuilt r asked) s.rebuilds ∙
    elim (cases_result (text_verdict f t)) [
      | inl fits ↦
          let passes = passing (m.taken f) f u.run c s.name s.takes (read_code f t fits) in
          let below : passed_on a (swap m go f u.run c) ≡ image =
          ap (passed_on a) (swap_checked m go f u.run c (m.taken f) refl passes) ∙ barred_on a (m.barred f c) (go f u.run c) in
          ap (unless_refused (text_verdict f t)) below
      | inr bad ↦
          ap (λ r. unless_refused r (passed_on a (swap m go f u.run c))) bad.1 ∙ sym (ap (λ r. unless_refused r image) bad.1)
    ]

-- a call off the lanes is refused, whatever it would give on one
pub by_lane : (k : ℕ) (a b : Outcome) → (is_lane k ≡ true → a ≡ b) → on_lane k a ≡ on_lane k b
by_lane k a b same =
    elim (cases_Bool (is_lane k)) [
      | inl yep ↦ ap (on_lane k) (same yep)
      | inr nope ↦ cond-false (is_lane k) a (refused (own Lane)) nope ∙ sym (cond-false (is_lane k) b (refused (own Lane)) nope)
    ]

pub lane_low : (k : ℕ) → is_lane k ≡ true → 1 ≤ k
lane_low k e = leb-true 1 k (and_parts (leb 1 k) (leb k 8) e).0

pub lane_high : (k : ℕ) → is_lane k ≡ true → k ≤ 8
lane_high k e = leb-true k 8 (and_parts (leb 1 k) (leb k 8) e).1

-- two swaps that give the same where a lane has a run
same_held : (u : Option Held) (a b : Held → Outcome) → ((w : Held) → u ≡ Some w → a w ≡ b w) → if_held u a ≡ if_held u b
same_held None a b same = refl
same_held (Some w) a b same = same w refl

-- what an accepted start says of what it named
pub record Begun (m : Meaning) (k : ℕ) (run : List ℕ) (f : Form) : Type 0 where
  pub lane : is_lane k ≡ true
  pub name : legal run ≡ true
  pub takes : m.taken f ≡ true

begun_by : (l n t : Bool) (u : Option Held) → accepted (cond l (cond n (if_free u (cond t done (refused (own ShapeNotTaken)))) (refused (own RunName))) (refused (own Lane))) ≡ true →
    (l ≡ true) × (n ≡ true) × (t ≡ true)
begun_by true true true None e = (refl, refl, refl)
begun_by true true false None e = absurd (true≢false (sym e))
begun_by true true t (Some u) e = absurd (true≢false (sym e))
begun_by true false t u e = absurd (true≢false (sym e))
begun_by false n t u e = absurd (true≢false (sym e))

pub begun : (m : Meaning) (u : Option Held) (k : ℕ) (run : List ℕ) (f : Form) → accepted (outcome m u (starts k run f)) ≡ true → Begun m k run f
begun m u k run f e =
    let p = begun_by (is_lane k) (legal run) (m.taken f) u e in
    record { lane = p.0; name = p.1; takes = p.2 }

ended_by : (l : Bool) (o : Outcome) → accepted (cond l o (refused (own Lane))) ≡ true → l ≡ true
ended_by true o e = refl
ended_by false o e = absurd (true≢false (sym e))

none_there : (n i : ℕ) → ◌≡◌ {A = Option Held} (get_or (replicate n None) i None) None
none_there zero i = refl
none_there (suc n) zero = refl
none_there (suc n) (suc i) = none_there n i

-- a new coder has come through no calls
pub new_through : (m : Meaning) → Through m (replicate 8 None) []
new_through m = record { eight = refl; each = λ k low high. none_there 8 (k - 1); sound = λ k u is. absurd (none≢some u is) }

module _ {m : Meaning} {lanes : List (Option Held)} {h : List Call} (t : Through m lanes h) where
  at_lane : (k : ℕ) → is_lane k ≡ true → lane_at lanes k ≡ held m h k
  at_lane k e = t.each k (lane_low k e) (lane_high k e)

  texts_follow : (go : Form → List ℕ → List ℕ → List ℕ) (k : ℕ) (x : List ℕ) → on_lane k (if_held (lane_at lanes k) (asked_text m go x)) ≡ on_lane k (if_held (held m h k) (swapped_text m go x))
  texts_follow go k x =
      by_lane k _ _ (λ e.
      ap (λ u. if_held u (asked_text m go x)) (at_lane k e) ∙
      same_held (held m h k) (asked_text m go x) (swapped_text m go x) (λ u is. asked_is_swapped m go x u (t.sound k u is)))

  pub outcome_follows : (c : Call) → (stepped m lanes c).outcome ≡ reply m h c
  outcome_follows (starts k run f) =
      by_lane k _ _ (λ e. ap (λ u. cond (legal run) (if_free u (cond (m.taken f) done (refused (own ShapeNotTaken)))) (refused (own RunName))) (at_lane k e))
  outcome_follows (ends k) = by_lane k _ _ (λ e. ap (λ u. if_held u (λ _. done)) (at_lane k e))
  outcome_follows (masks k x) = texts_follow m.forward k x
  outcome_follows (unmasks k x) = texts_follow m.backward k x
  outcome_follows restarts = refl

  -- a call that changes no lane
  keeps : (c : Call) → ((k : ℕ) → held m (c ∷ h) k ≡ held m h k) → Through m lanes (c ∷ h)
  keeps c same = record {
    eight = t.eight;
    each = λ k low high. t.each k low high ∙ sym (same k);
    sound = λ k u e. t.sound k u (sym (same k) ∙ e);
  }

  -- a call that changes one lane
  changes : (c : Call) (k : ℕ) (v : Option Held) → is_lane k ≡ true → held m (c ∷ h) k ≡ v → ((j : ℕ) → (j ≡ k → ⊥) → held m (c ∷ h) j ≡ held m h j) →
      ((u : Held) → v ≡ Some u → Sound m u) → Through m (set lanes (k - 1) v) (c ∷ h)
  changes c k v lane here there sound = record {
    eight = length-set lanes (k - 1) v ∙ t.eight;
    each = λ j low high.
        elim (cases_eq j k) [
          | inl same ↦
              let l = lane_low k lane in
              let r = lane_high k lane in
              let within : k - 1 < length lanes = omega (arith, t.eight) in
              ap (λ i. lane_at (set lanes (k - 1) v) i) same ∙ get_or-set_same lanes (k - 1) v None within ∙ sym here ∙ ap (held m (c ∷ h)) (sym same)
          | inr other ↦
              let l = lane_low k lane in
              let apart : j - 1 ≡ k - 1 → ⊥ = λ e. other (omega arith) in
              get_or-set_other lanes (k - 1) (j - 1) v None apart ∙ t.each j low high ∙ sym (there j other)
        ];
    sound = λ j u e.
        elim (cases_eq j k) [
          | inl same ↦ sound u (sym here ∙ ap (held m (c ∷ h)) (sym same) ∙ e)
          | inr other ↦ t.sound j u (sym (there j other) ∙ e)
        ];
  }

  -- what an accepted start or end does, and a refused one
  module _ (c : Call) (k : ℕ) (v : Option Held) (ok : Bool) (is : (j : ℕ) → held m (c ∷ h) j ≡ cond (eqb k j && ok) v (held m h j)) where
    sets_lane : (ok ≡ true → is_lane k ≡ true) → (ok ≡ true → (u : Held) → v ≡ Some u → Sound m u) → Through m (cond ok (set lanes (k - 1) v) lanes) (c ∷ h)
    sets_lane lane sound =
        let P : List (Option Held) → Type 0 = λ l. Through m l (c ∷ h) in
        elim (cases_Bool ok) [
          | inl yep ↦
              let whole = changes c k v (lane yep)
              (is k ∙ cond-true (eqb k k && ok) v (held m h k) (and_from (eqb k k) ok (eq-eqb k k refl) yep))
              (λ j other. is j ∙ cond-false (eqb k j && ok) v (held m h j) (and_left (eqb k j) ok (ne_eqb k j (λ e. other (sym e)))))
              (sound yep) in
              subst P (sym (cond-true ok (set lanes (k - 1) v) lanes yep)) whole
          | inr nope ↦
              let whole = keeps c (λ j. is j ∙ cond-false (eqb k j && ok) v (held m h j) (and_right (eqb k j) ok nope)) in
              subst P (sym (cond-false ok (set lanes (k - 1) v) lanes nope)) whole
        ]

  lanes_follow : (c : Call) → Existing c → Through m (lanes_after (reply m h c) lanes c) (c ∷ h)
  lanes_follow (starts k run f) exists =
      let o = reply m h (starts k run f) in
      let P : Held → Type 0 = λ w. Sound m w in
      sets_lane (starts k run f) k (Some (held_of run f)) (accepted o) (λ j. refl) (λ e. (begun m (held m h k) k run f e).lane)
      (λ e u is.
      let b = begun m (held m h k) k run f e in
      let here : Sound m (held_of run f) = record { name = b.name; takes = b.takes; rebuilds = exists } in
      subst P (same_some (held_of run f) u is) here)
  lanes_follow (ends k) exists =
      sets_lane (ends k) k None (accepted (reply m h (ends k))) (λ j. refl) (ended_by (is_lane k) (if_held (held m h k) (λ _. done))) (λ e u is. absurd (none≢some u is))
  lanes_follow (masks k x) exists = keeps (masks k x) (λ j. refl)
  lanes_follow (unmasks k x) exists = keeps (unmasks k x) (λ j. refl)
  lanes_follow restarts exists = record {
    eight = refl;
    each = λ k low high. none_there 8 (k - 1);
    sound = λ k u is. absurd (none≢some u is);
  }

-- what a call of any coder gives is what the reference machine gives, where the coder has come through calls
pub step_follows : (m : Meaning) (lanes : List (Option Held)) (c : Call) → Existing c → Follows m lanes (stepped m lanes c).lanes c (said c (stepped m lanes c).outcome)
step_follows m lanes c exists h t =
    let P : Outcome → Type 0 = λ o. Through m (lanes_after o lanes c) (c ∷ h) in
    let same = outcome_follows t c in
    (subst P (sym same) (lanes_follow t c exists), ap (said c) same)

-- the same of lanes and a reply that are those of the step
pub follows_by : (m : Meaning) (lanes after : List (Option Held)) (c : Call) (r : Reply) → Existing c → after ≡ (stepped m lanes c).lanes → r ≡ said c (stepped m lanes c).outcome →
    Follows m lanes after c r
follows_by m lanes after c r exists then says h t =
    let P : List (Option Held) → Type 0 = λ l. Through m l (c ∷ h) in
    let p = step_follows m lanes c exists h t in
    (subst P (sym then) p.0, says ∙ p.1)
