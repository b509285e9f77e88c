-- Ciphers that are alike give the same to every list of calls. Assumes nothing.
use Rattle.std.proofs.Common.{◌≡◌, ℕ, true, cond, ◌&&◌, eqb, ◌⊎◌, List, [], ◌∷◌, Some, None, Ok, Option, sym, refl, ap, ◌∙◌, inl, inr}
use Rattle.faults.specs.declared.fault.Cause.TheVariants.{RunName, ShapeNotTaken}
use Rattle.formats.specs.Codes.{text_verdict, as_symbols, as_bytes}
use Rattle.faults.specs.Faults.{own}
use Rattle.formats.specs.Forms.{Form, Exists, remade}
use Rattle.alphabets.specs.RunNames.{legal}
use Rattle.formats.proofs.Limits.{bounded}
use Rattle.ciphers.specs.Meanings.{Meaning, Free}
use Rattle.ciphers.specs.Swaps.{refused, unless_refused, unless_barred, barred_past}
use Rattle.coder.specs.Calls.{Call, starts, ends, masks, unmasks, restarts, lane_of, said, accepted, done}
use Rattle.coder.specs.Handed.{Sound, Existing, AllExisting}
use Rattle.coder.specs.Law.{Alike}
use Rattle.coder.specs.Lists.{before, told, Asked}
use Rattle.coder.specs.Machine.{Held, held_of, on_lane, if_free, swapped_text, outcome, held, reply}
use Rattle.coder.proofs.Handed.{cases_result, read_code, Begun, begun}
use Rattle.coder.proofs.Lasts.{last_of, held_since, all_before, started_exists}

-- a shape that can be made again exists
existing : (f : Form) → remade f ≡ Ok f → Exists f
existing f e = ((bounded f).without f e).1

pub alike_itself : (m : Meaning) → Alike m m
alike_itself m = record { taken = λ f x. refl; barred = λ f c x t code. refl; forward = λ f run c x t l free. refl; backward = λ f run c x t l free. refl }

pub alike_back : {m n : Meaning} → Alike m n → Alike n m
alike_back {m} {n} a =
    let taken-too : (f : Form) → Exists f → n.taken f ≡ true → m.taken f ≡ true = λ f x t. a.taken f x ∙ t in
    let free-too : (f : Form) (c : List ℕ) → Exists f → n.taken f ≡ true → Free n f c → Free m f c =
    λ f c x t free. record { code = free.code; open_to = a.barred f c x (taken-too f x t) free.code ∙ free.open_to } in
    record {
      taken = λ f x. sym (a.taken f x);
      barred = λ f c x t code. sym (a.barred f c x (taken-too f x t) code);
      forward = λ f run c x t l free. sym (a.forward f run c x (taken-too f x t) l (free-too f c x t free));
      backward = λ f run c x t l free. sym (a.backward f run c x (taken-too f x t) l (free-too f c x t free));
    }

-- a lane that is under a run and a shape got them by a start
pub kept : (m : Meaning) (h : List Call) (k : ℕ) (u : Held) → held m h k ≡ Some u → Begun m k u.run u.shape
kept m h k u e =
    let s = last_of m h k u e in
    begun m (held m s.earlier k) k u.run u.shape s.start

cases_option : {X : Type 0} (o : Option X) → (o ≡ None) ⊎ ((x : X) × (o ≡ Some x))
cases_option None = inl refl
cases_option (Some x) = inr (x, refl)

module _ (m n : Meaning) (a : Alike m n) where
  -- maps that agree at the free codes swap each text alike
  same_text : (go by : Form → List ℕ → List ℕ → List ℕ) (t : List ℕ) (u : Held) → Exists u.shape → m.taken u.shape ≡ true →
      ((c : List ℕ) → Free m u.shape c → go u.shape u.run c ≡ by u.shape u.run c) → swapped_text m go t u ≡ swapped_text n by t u
  unfolding swapped_text
  same_text go by t u exists taken same =
      let f = u.shape in
      let alphabet = f.alphabet in
      let c = as_symbols alphabet t in
      let image = as_bytes alphabet (go f u.run c) in
      let other = as_bytes alphabet (by f u.run c) in
      let one_way = unless_barred (barred_past (m.barred f c)) image in
      let other_way = unless_barred (barred_past (n.barred f c)) other in
      elim (cases_result (text_verdict f t)) [
        | inl fits ↦
            let code = read_code f t fits in
            let bars = a.barred f c exists taken code in
            let inner : one_way ≡ other_way =
            elim (cases_option (m.barred f c)) [
              | inl clear ↦
                  ap (λ b. unless_barred (barred_past b) image) bars ∙
                  ap (λ z. unless_barred (barred_past (n.barred f c)) (as_bytes alphabet z)) (same c (record { code = code; open_to = clear }))
              | inr bar ↦
                  ap (λ b. unless_barred (barred_past b) image) bar.1 ∙ sym (ap (λ b. unless_barred (barred_past b) other) (sym bars ∙ bar.1))
            ] in
            ap (unless_refused (text_verdict f t)) inner
        | inr bad ↦ ap (λ r. unless_refused r one_way) bad.1 ∙ sym (ap (λ r. unless_refused r other_way) bad.1)
      ]

  same_outcome : (u : Option Held) (c : Call) → Existing c → ((w : Held) → u ≡ Some w → Sound m w) → outcome m u c ≡ outcome n u c
  same_outcome u (starts k run f) exists under =
      ap (λ t. on_lane k (cond (legal run) (if_free u (cond t done (refused (own ShapeNotTaken)))) (refused (own RunName)))) (a.taken f (existing f exists))
  same_outcome u (ends k) exists under = refl
  same_outcome None (masks k t) exists under = refl
  same_outcome (Some w) (masks k t) exists under =
      let p = under w refl in
      ap (on_lane k) (same_text m.forward n.forward t w (existing w.shape p.rebuilds) p.takes (λ c free. a.forward w.shape w.run c (existing w.shape p.rebuilds) p.takes p.name free))
  same_outcome None (unmasks k t) exists under = refl
  same_outcome (Some w) (unmasks k t) exists under =
      let p = under w refl in
      ap (on_lane k) (same_text m.backward n.backward t w (existing w.shape p.rebuilds) p.takes (λ c free. a.backward w.shape w.run c (existing w.shape p.rebuilds) p.takes p.name free))
  same_outcome u restarts exists under = refl

  under_at : (h : List Call) (k : ℕ) → AllExisting h → (w : Held) → held m h k ≡ Some w → Sound m w
  under_at h k all w e =
      let b = kept m h k w e in
      record { name = b.name; takes = b.takes; rebuilds = started_exists m h k w all (last_of m h k w e) }

  -- with what a lane is under in both
  outcome_with : (h : List Call) (k : ℕ) (c : Call) → Existing c → AllExisting h → held m h k ≡ held n h k → outcome m (held m h k) c ≡ outcome n (held n h k) c
  outcome_with h k c exists all e = same_outcome (held m h k) c exists (under_at h k all) ∙ ap (λ w. outcome n w c) e

  pub same_held : (h : List Call) (k : ℕ) → AllExisting h → held m h k ≡ held n h k
  same_held [] k all = refl
  same_held (starts j run f ∷ h) k all =
      let c = starts j run f in
      ap (λ o. cond (eqb j k && accepted o) (Some (held_of run f)) (held m h k)) (outcome_with h j c all.0 all.1 (same_held h j all.1)) ∙
      ap (cond (eqb j k && accepted (reply n h c)) (Some (held_of run f))) (same_held h k all.1)
  same_held (ends j ∷ h) k all =
      ap (λ o. cond (eqb j k && accepted o) None (held m h k)) (outcome_with h j (ends j) tt all.1 (same_held h j all.1)) ∙
      ap (cond (eqb j k && accepted (reply n h (ends j))) None) (same_held h k all.1)
  same_held (masks j t ∷ h) k all = same_held h k all.1
  same_held (unmasks j t ∷ h) k all = same_held h k all.1
  same_held (restarts ∷ h) k all = refl

  pub same_reply : (h : List Call) (c : Call) → Existing c → AllExisting h → reply m h c ≡ reply n h c
  same_reply h c exists all = outcome_with h (lane_of c) c exists all (same_held h (lane_of c) all)

  pub same_told : (cs h : List Call) → AllExisting cs → AllExisting h → told m h cs ≡ told n h cs
  same_told [] h exist all = refl
  same_told (c ∷ cs) h exist all =
      ap (λ o. said c o ∷ told m (c ∷ h) cs) (same_reply h c exist.0 all) ∙
      ap (λ xs. said c (reply n h c) ∷ xs) (same_told cs (c ∷ h) exist.1 (exist.0, all))

  pub same_asked : (cs : List Call) → AllExisting cs → (kind : ℕ → List ℕ → Call) (i : ℕ) (u : Held) (x : List ℕ) → Asked n cs kind i u x → Asked m cs kind i u x
  same_asked cs exist kind i u x q =
      let h = before cs i in
      record {
        lane = q.lane;
        call = q.call;
        under = last_of m h q.lane u (same_held h q.lane (all_before cs i exist) ∙ held_since n h q.lane u q.under);
      }
