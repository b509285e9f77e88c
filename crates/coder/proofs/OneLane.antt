-- What the results of one lane hang on: the calls on it and the restarts. Assumes nothing.
use Rattle.std.proofs.Common.{◌≡◌, ℕ, true, false, cond, ◌&&◌, List, [], ◌∷◌, Some, None, Option, sym, refl, ap, ◌∙◌, inl, inr}
use Rattle.std.proofs.lemmas.Bool.{true≢false, cases_Bool, eqb-true, cond-true, cond-false}
use Rattle.ciphers.specs.Meanings.{Meaning}
use Rattle.coder.specs.Calls.{Call, starts, ends, masks, unmasks, restarts, Reply, said, accepted}
use Rattle.coder.specs.Lists.{told, names, touches, on, results}
use Rattle.coder.specs.Machine.{Held, held_of, outcome, held, reply}

-- what a lane is under after a call on it or a restart
abbrev next : Meaning → Option Held → Call → Option Held
next m u (starts j run f) = cond (accepted (outcome m u (starts j run f))) (Some (held_of run f)) u
next m u (ends j) = cond (accepted (outcome m u (ends j))) None u
next m u (masks j t) = u
next m u (unmasks j t) = u
next m u restarts = None

-- the replies to the calls on a lane, from what it is under alone
abbrev lane_told : Meaning → ℕ → Option Held → List Call → List Reply
lane_told m k u [] = []
lane_told m k u (c ∷ cs) = cond (names k c) (said c (outcome m u c) ∷ lane_told m k (next m u c) cs) (lane_told m k (next m u c) cs)

untouched : (m : Meaning) (h : List Call) (k : ℕ) (c : Call) → touches k c ≡ false → (held m (c ∷ h) k ≡ held m h k) × (names k c ≡ false)
untouched m h k (starts j run f) e = (ap (λ b. cond (b && accepted (reply m h (starts j run f))) (Some (held_of run f)) (held m h k)) e, e)
untouched m h k (ends j) e = (ap (λ b. cond (b && accepted (reply m h (ends j))) None (held m h k)) e, e)
untouched m h k (masks j t) e = (refl, e)
untouched m h k (unmasks j t) e = (refl, e)
untouched m h k restarts e = absurd (true≢false e)

touched : (m : Meaning) (h : List Call) (k : ℕ) (c : Call) → touches k c ≡ true → (held m (c ∷ h) k ≡ next m (held m h k) c) × (names k c ≡ true → reply m h c ≡ outcome m (held m h k) c)
touched m h k (starts j run f) e =
    let same = eqb-true j k e in (
      ap (λ b. cond (b && accepted (reply m h (starts j run f))) (Some (held_of run f)) (held m h k)) e ∙
          ap (λ i. cond (accepted (outcome m (held m h i) (starts j run f))) (Some (held_of run f)) (held m h k)) same,
      λ _. ap (λ i. outcome m (held m h i) (starts j run f)) same,
    )
touched m h k (ends j) e =
    let same = eqb-true j k e in (
      ap (λ b. cond (b && accepted (reply m h (ends j))) None (held m h k)) e ∙ ap (λ i. cond (accepted (outcome m (held m h i) (ends j))) None (held m h k)) same,
      λ _. ap (λ i. outcome m (held m h i) (ends j)) same,
    )
touched m h k (masks j t) e = (refl, λ _. ap (λ i. outcome m (held m h i) (masks j t)) (eqb-true j k e))
touched m h k (unmasks j t) e = (refl, λ _. ap (λ i. outcome m (held m h i) (unmasks j t)) (eqb-true j k e))
touched m h k restarts e = (refl, λ _. refl)

lane_results : (m : Meaning) (k : ℕ) (cs h : List Call) → results k cs (told m h cs) ≡ lane_told m k (held m h k) (on k cs)
lane_results m k [] h = refl
lane_results m k (c ∷ cs) h =
    let rest = lane_results m k cs (c ∷ h) in
    let All-here = results k cs (told m (c ∷ h) cs) in
    let then = lane_told m k (next m (held m h k) c) (on k cs) in
    elim (cases_Bool (touches k c)) [
      | inl yep ↦
          let t = touched m h k c yep in
          let more = rest ∙ ap (λ u. lane_told m k u (on k cs)) t.0 in
          let listed = ap (lane_told m k (held m h k)) (sym (cond-true (touches k c) (c ∷ on k cs) (on k cs) yep)) in
          elim (cases_Bool (names k c)) [
            | inl named ↦
                cond-true (names k c) (said c (reply m h c) ∷ All-here) All-here named ∙
                ap (λ xs. said c (reply m h c) ∷ xs) more ∙ ap (λ o. said c o ∷ then) (t.1 named) ∙
                sym (cond-true (names k c) (said c (outcome m (held m h k) c) ∷ then) then named) ∙ listed
            | inr unnamed ↦
                cond-false (names k c) (said c (reply m h c) ∷ All-here) All-here unnamed ∙ more ∙
                sym (cond-false (names k c) (said c (outcome m (held m h k) c) ∷ then) then unnamed) ∙ listed
          ]
      | inr nope ↦
          let t = untouched m h k c nope in
          cond-false (names k c) (said c (reply m h c) ∷ All-here) All-here t.1 ∙ rest ∙
          ap (λ u. lane_told m k u (on k cs)) t.0 ∙ ap (lane_told m k (held m h k)) (sym (cond-false (touches k c) (c ∷ on k cs) (on k cs) nope))
    ]

-- the same calls on the lane and the same restarts, after calls that left it under the same
pub same_results : (m : Meaning) (k : ℕ) (cs ds h g : List Call) → held m h k ≡ held m g k → on k cs ≡ on k ds → results k cs (told m h cs) ≡ results k ds (told m g ds)
same_results m k cs ds h g u e =
    lane_results m k cs h ∙ ap (λ w. lane_told m k w (on k cs)) u ∙ ap (lane_told m k (held m g k)) e ∙ sym (lane_results m k ds g)
