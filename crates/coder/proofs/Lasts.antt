-- What a lane is under is what the last accepted start on it named. Assumes nothing.
use Rattle.std.proofs.Common.{◌≡◌, ℕ, Bool, true, false, cond, ◌&&◌, eqb, List, [], ◌∷◌, ◌++◌, take, Some, None, Ok, sym, refl, ap, ◌∙◌, subst, inl, inr, arith}
use Rattle.std.proofs.ByRecursion.{All-take}
use Rattle.std.proofs.lemmas.Bool.{true≢false, cases_Bool, and_parts, and_from, eqb-true, eq-eqb, cond-true, cond-false}
use Rattle.faults.specs.declared.fault.Cause.TheVariants.{Lane, RunName, ShapeNotTaken}
use Rattle.faults.specs.Faults.{own}
use Rattle.formats.specs.Forms.{Form, remade}
use Rattle.alphabets.specs.RunNames.{legal}
use Rattle.faults.proofs.Variants.{none≢some, same_some}
use Rattle.ciphers.specs.Meanings.{Meaning}
use Rattle.ciphers.specs.Swaps.{refused}
use Rattle.coder.specs.Calls.{Call, starts, ends, masks, unmasks, restarts, accepted, done}
use Rattle.coder.specs.Handed.{Existing, AllExisting}
use Rattle.coder.specs.LastStart.{Since, LastStart}
use Rattle.coder.specs.Lists.{past, before}
use Rattle.coder.specs.Machine.{Held, held_of, is_lane, if_free, outcome, held, reply}

-- a start on a lane that has a run is refused
busy_start : (l n t : Bool) (u : Held) → accepted (cond l (cond n (if_free (Some u) (cond t done (refused (own ShapeNotTaken)))) (refused (own RunName))) (refused (own Lane))) ≡ false
busy_start true true t u = refl
busy_start true false t u = refl
busy_start false n t u = refl

-- what a lane is under stays through any call that is no restart and no accepted end on it
stays : (m : Meaning) (h : List Call) (k : ℕ) (u : Held) (c : Call) → (c ≡ restarts → ⊥) → (c ≡ ends k → accepted (reply m h c) ≡ true → ⊥) → held m h k ≡ Some u →
    held m (c ∷ h) k ≡ Some u
stays m h k u (starts j run f) not-restart not_end e =
    let c = starts j run f in
    let test = eqb j k && accepted (reply m h c) in
    elim (cases_Bool test) [
      | inl yep ↦
          let p = and_parts (eqb j k) (accepted (reply m h c)) yep in
          let full : held m h j ≡ Some u = ap (held m h) (eqb-true j k p.0) ∙ e in
          let refuses : accepted (reply m h c) ≡ false = ap (λ o. accepted (outcome m o c)) full ∙ busy_start (is_lane j) (legal run) (m.taken f) u in
          absurd (true≢false (sym p.1 ∙ refuses))
      | inr nope ↦ cond-false test (Some (held_of run f)) (held m h k) nope ∙ e
    ]
stays m h k u (ends j) not-restart not_end e =
    let test = eqb j k && accepted (reply m h (ends j)) in
    elim (cases_Bool test) [
      | inl yep ↦
          let p = and_parts (eqb j k) (accepted (reply m h (ends j))) yep in
          absurd (not_end (ap ends (eqb-true j k p.0)) p.1)
      | inr nope ↦ cond-false test None (held m h k) nope ∙ e
    ]
stays m h k u (masks j t) not-restart not_end e = e
stays m h k u (unmasks j t) not-restart not_end e = e
stays m h k u restarts not-restart not_end e = absurd (not-restart refl)

all_stay : (m : Meaning) (base : List Call) (k : ℕ) (u : Held) (later : List Call) → Since m k base later → held m base k ≡ Some u → held m (later ++ base) k ≡ Some u
all_stay m base k u [] s e = e
all_stay m base k u (c ∷ later) s e = stays m (later ++ base) k u c s.0 s.1 (all_stay m base k u later s.2 e)

pub held_since : (m : Meaning) (h : List Call) (k : ℕ) (u : Held) → LastStart m h k u → held m h k ≡ Some u
held_since m h k u s =
    let c = starts k u.run u.shape in
    let test = eqb k k && accepted (reply m s.earlier c) in
    let here : held m (c ∷ s.earlier) k ≡ Some u =
    cond-true test (Some u) (held m s.earlier k) (and_from (eqb k k) (accepted (reply m s.earlier c)) (eq-eqb k k refl) s.start) in
    ap (λ x. held m x k) s.calls ∙ all_stay m (c ∷ s.earlier) k u s.later s.since here

-- one call more since the start
one_more : (m : Meaning) (h : List Call) (k : ℕ) (u : Held) (c : Call) → (c ≡ restarts → ⊥) → (c ≡ ends k → accepted (reply m h c) ≡ true → ⊥) → LastStart m h k u →
    LastStart m (c ∷ h) k u
one_more m h k u c not-restart not_end s = record {
  later = c ∷ s.later;
  earlier = s.earlier;
  calls = ap (λ x. c ∷ x) s.calls;
  start = s.start;
  since = (not-restart, λ e t. not_end e (ap (λ x. accepted (reply m x c)) s.calls ∙ t), s.since);
}

start_restart : {j : ℕ} {run : List ℕ} {f : Form} → starts j run f ≡ restarts → ⊥
start_restart e = let z : ◌≡◌ {A = ℕ} 0 1 = cc in omega arith

start_end : {j k : ℕ} {run : List ℕ} {f : Form} → starts j run f ≡ ends k → ⊥
start_end e = let z : ◌≡◌ {A = ℕ} 0 1 = cc in omega arith

end_restart : {j : ℕ} → ends j ≡ restarts → ⊥
end_restart e = let z : ◌≡◌ {A = ℕ} 0 1 = cc in omega arith

end_lane : {j k : ℕ} → ends j ≡ ends k → j ≡ k
end_lane e = cc

mask_restart : {j : ℕ} {t : List ℕ} → masks j t ≡ restarts → ⊥
mask_restart e = let z : ◌≡◌ {A = ℕ} 0 1 = cc in omega arith

mask_end : {j k : ℕ} {t : List ℕ} → masks j t ≡ ends k → ⊥
mask_end e = let z : ◌≡◌ {A = ℕ} 0 1 = cc in omega arith

unmask_restart : {j : ℕ} {t : List ℕ} → unmasks j t ≡ restarts → ⊥
unmask_restart e = let z : ◌≡◌ {A = ℕ} 0 1 = cc in omega arith

unmask_end : {j k : ℕ} {t : List ℕ} → unmasks j t ≡ ends k → ⊥
unmask_end e = let z : ◌≡◌ {A = ℕ} 0 1 = cc in omega arith

pub last_of : (m : Meaning) (h : List Call) (k : ℕ) (u : Held) → held m h k ≡ Some u → LastStart m h k u
last_of m [] k u e = absurd (none≢some u e)
last_of m (starts j run f ∷ h) k u e =
    let c = starts j run f in
    let w = held_of run f in
    let test = eqb j k && accepted (reply m h c) in
    elim (cases_Bool test) [
      | inl yep ↦
          let p = and_parts (eqb j k) (accepted (reply m h c)) yep in
          let P : ℕ → Type 0 = λ i. LastStart m (c ∷ h) i w in
          let Q : Held → Type 0 = λ v. LastStart m (c ∷ h) k v in
          let here : LastStart m (c ∷ h) j w = record { later = []; earlier = h; calls = refl; start = p.1; since = tt } in
          subst Q (same_some w u (sym (cond-true test (Some w) (held m h k) yep) ∙ e)) (subst P (eqb-true j k p.0) here)
      | inr nope ↦
          one_more m h k u c start_restart (λ q t. start_end q) (last_of m h k u (sym (cond-false test (Some w) (held m h k) nope) ∙ e))
    ]
last_of m (ends j ∷ h) k u e =
    let done-here = accepted (reply m h (ends j)) in
    let test = eqb j k && done-here in
    elim (cases_Bool test) [
      | inl yep ↦ absurd (none≢some u (sym (cond-true test None (held m h k) yep) ∙ e))
      | inr nope ↦
          let not_end : ends j ≡ ends k → done-here ≡ true → ⊥ = λ q t. true≢false (sym (and_from (eqb j k) done-here (eq-eqb j k (end_lane q)) t) ∙ nope) in
          one_more m h k u (ends j) end_restart not_end (last_of m h k u (sym (cond-false test None (held m h k) nope) ∙ e))
    ]
last_of m (masks j t ∷ h) k u e = one_more m h k u (masks j t) mask_restart (λ q _. mask_end q) (last_of m h k u e)
last_of m (unmasks j t ∷ h) k u e = one_more m h k u (unmasks j t) unmask_restart (λ q _. unmask_end q) (last_of m h k u e)
last_of m (restarts ∷ h) k u e = absurd (none≢some u e)

pub last_start : (m : Meaning) (h : List Call) (k : ℕ) (u : Held) → (held m h k ≡ Some u → LastStart m h k u) × (LastStart m h k u → held m h k ≡ Some u)
last_start m h k u = (last_of m h k u, held_since m h k u)

-- the shapes that the starts of a list name
all_past : (cs h : List Call) → AllExisting cs → AllExisting h → AllExisting (past cs h)
all_past [] h all earlier = earlier
all_past (c ∷ cs) h all earlier = all_past cs (c ∷ h) all.1 (all.0, earlier)

all_behind : (later earlier : List Call) → AllExisting (later ++ earlier) → AllExisting earlier
all_behind [] earlier all = all
all_behind (c ∷ later) earlier all = all_behind later earlier all.1

pub all_before : (cs : List Call) (i : ℕ) → AllExisting cs → AllExisting (before cs i)
all_before cs i exist = all_past (take i cs) [] (All-take Existing i cs exist) tt

pub started_exists : (m : Meaning) (h : List Call) (k : ℕ) (u : Held) → AllExisting h → LastStart m h k u → remade u.shape ≡ Ok u.shape
started_exists m h k u all s =
    let P : List Call → Type 0 = λ x. AllExisting x in
    (all_behind s.later (starts k u.run u.shape ∷ s.earlier) (subst P s.calls all)).0
