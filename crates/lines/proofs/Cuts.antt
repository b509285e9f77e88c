-- A code that is too long for any shape is refused for its length alike when it is cut. Assumes nothing.
use Rattle.std.proofs.Common.{◌≡◌, ℕ, ◌<◌, ◌≤◌, true, false, eqb, List, length, take, Some, None, Ok, Err, Option, Result, sym, refl, ap, ◌∙◌, subst, ⊎_elim, arith}
use Rattle.std.proofs.lemmas.List.{length-take, take_all}
use Rattle.std.proofs.lemmas.Bool.{cond-true, cond-false, ne_eqb, cases_Bool, cases_lt}
use Rattle.faults.specs.declared.fault.Cause.TheVariants.{Lane, LaneHasNoRun, CodeLength}
use Rattle.faults.specs.declared.fault.Fault.{Fault}
use Rattle.formats.specs.Codes.{verdict, stray_byte, text_verdict, as_symbols, as_bytes}
use Rattle.faults.specs.Faults.{own}
use Rattle.formats.specs.Forms.{Form, remade}
use Rattle.formats.proofs.Limits.{bounded}
use Rattle.ciphers.specs.declared.way.Way.{Way}
use Rattle.ciphers.specs.declared.way.Way.TheVariants.{Forward, Backward}
use Rattle.ciphers.specs.Meanings.{Meaning}
use Rattle.coder.specs.declared.coder.Coder.{Coder}
use Rattle.coder.specs.Called.{Called}
use Rattle.ciphers.specs.Swaps.{Outcome, refused, swapped, answer, left, unless_refused, unless_barred, barred_past, swap}
use Rattle.coder.specs.Calls.{Call, masks, unmasks, turns, Reply}
use Rattle.coder.specs.Handed.{Through}
use Rattle.coder.specs.Machine.{Held, is_lane, on_lane, if_held, held, swapped_text}
use Rattle.coder.specs.Steps.{lane_at, rebuilt, passed_on, asked_text}
use Rattle.commands.specs.Commands.{mask, unmask}
use Rattle.printing.specs.declared.printed.Printed.{Printed}
use Rattle.lines.specs.LineReplies.{swap_line}
use Rattle.lines.specs.Answers.{AnsweredBy, Answered, asked}
use Rattle.lines.proofs.Made.{made}

-- no shape is longer than 32 symbols
fits : (f g : Form) → remade f ≡ Ok g → g.len ≤ 32
fits f g e = let b = (bounded f).without g e in subst (λ s. s.len ≤ 32) b.0 b.1.short

too_long : (f : Form) (t : List ℕ) → f.len ≤ 32 → 33 ≤ length t → text_verdict f t ≡ Err (own CodeLength)
unfolding text_verdict
too_long f t h k =
    cond-false (eqb (length t) f.len) (verdict (stray_byte f.alphabet t)) (Err (own CodeLength)) (ne_eqb (length t) f.len (λ e. omega arith))

-- what waits for a text's verdict is the same for a text and for its first 33 bytes
cut : (f : Form) (t : List ℕ) (then : List ℕ → Outcome) → f.len ≤ 32 → unless_refused (text_verdict f (take 33 t)) (then (take 33 t)) ≡ unless_refused (text_verdict f t) (then t)
cut f t then h =
    ⊎_elim
    (λ (l : length t < 33). ap (λ s. unless_refused (text_verdict f s) (then s)) (take_all 33 t (omega arith)))
    (λ (l : 33 ≤ length t).
    ap (λ v. unless_refused v (then (take 33 t))) (too_long f (take 33 t) h (omega (arith, length-take 33 t)))
    ∙ sym (ap (λ v. unless_refused v (then t)) (too_long f t h l)))
    (cases_lt (length t) 33)

rebuilt_alike : (r : Result Form Fault) (p q : Form → Outcome) → ((f : Form) → r ≡ Ok f → p f ≡ q f) → rebuilt r p ≡ rebuilt r q
rebuilt_alike (Ok f) p q h = h f refl
rebuilt_alike (Err fault) p q h = refl

on_lane_refused : (k : ℕ) (o : Outcome) (e : Fault) → o ≡ refused e → (f : Fault) × (on_lane k o ≡ refused f)
on_lane_refused k o e is =
    ⊎_elim
    (λ (l : is_lane k ≡ true). (e, cond-true (is_lane k) o (refused (own Lane)) l ∙ is))
    (λ (l : is_lane k ≡ false). (own Lane, cond-false (is_lane k) o (refused (own Lane)) l))
    (cases_Bool (is_lane k))

module _ (m : Meaning) (go : Form → List ℕ → List ℕ → List ℕ) (t : List ℕ) where
  asked_cut : (u : Held) → asked_text m go (take 33 t) u ≡ asked_text m go t u
  unfolding asked_text
  asked_cut u =
      rebuilt_alike (remade u.shape) _ _ (λ f e. cut f t (λ s. passed_on f.alphabet (swap m go f u.run (as_symbols f.alphabet s))) (fits u.shape f e))

  swapped_cut : (u : Held) → remade u.shape ≡ Ok u.shape → swapped_text m go (take 33 t) u ≡ swapped_text m go t u
  unfolding swapped_text
  swapped_cut u e =
      let f = u.shape in
      cut f t (λ s. unless_barred (barred_past (m.barred f (as_symbols f.alphabet s))) (as_bytes f.alphabet (go f u.run (as_symbols f.alphabet s)))) (fits f f e)

  -- on a lane, with or without a run
  asked_lane : (k : ℕ) (u : Option Held) → on_lane k (if_held u (asked_text m go (take 33 t))) ≡ on_lane k (if_held u (asked_text m go t))
  asked_lane k None = refl
  asked_lane k (Some u) = ap (on_lane k) (asked_cut u)

  swapped_lane : (k : ℕ) (u : Option Held) → ((v : Held) → u ≡ Some v → remade v.shape ≡ Ok v.shape) → on_lane k (if_held u (swapped_text m go (take 33 t))) ≡ on_lane k (if_held u (swapped_text m go t))
  swapped_lane k None h = refl
  swapped_lane k (Some u) h = ap (on_lane k) (swapped_cut u (h u refl))

  -- a text that is too long for any shape is refused
  rebuilt_long : 33 ≤ length t → (u : Held) (r : Result Form Fault) → remade u.shape ≡ r → (e : Fault) × (asked_text m go t u ≡ refused e)
  unfolding asked_text
  rebuilt_long h u (Ok f) is = (
    own CodeLength,
    ap (λ r. rebuilt r (λ f. unless_refused (text_verdict f t) (passed_on f.alphabet (swap m go f u.run (as_symbols f.alphabet t))))) is
        ∙ ap (λ v. unless_refused v (passed_on f.alphabet (swap m go f u.run (as_symbols f.alphabet t)))) (too_long f t (fits u.shape f is) h),
  )
  rebuilt_long h u (Err fault) is =
      (fault, ap (λ r. rebuilt r (λ f. unless_refused (text_verdict f t) (passed_on f.alphabet (swap m go f u.run (as_symbols f.alphabet t))))) is)

  held_long : 33 ≤ length t → (u : Option Held) → (e : Fault) × (if_held u (asked_text m go t) ≡ refused e)
  held_long h None = (own LaneHasNoRun, refl)
  held_long h (Some u) = rebuilt_long h u (remade u.shape) refl

  pub long_refused : (k : ℕ) (u : Option Held) → 33 ≤ length t → (e : Fault) × (on_lane k (if_held u (asked_text m go t)) ≡ refused e)
  long_refused k u h = let x = held_long h u in on_lane_refused k (if_held u (asked_text m go t)) x.0 x.1

-- so the text that an accepted call leaves, which is as long as the one handed in, is printed whole
pub whole : (k : ℕ) (o : Outcome) (t text : List ℕ) → (33 ≤ length t → (e : Fault) × (o ≡ refused e)) → length text ≡ length t → swap_line k (answer o) (take 32 text) ≡ swap_line k (answer o) text
whole k o t text long same =
    ⊎_elim
    (λ (l : length t < 33). ap (swap_line k (answer o)) (take_all 32 text (omega arith)))
    (λ (l : 33 ≤ length t).
    let x = long l in
    ap (λ q. swap_line k (answer q) (take 32 text)) x.1 ∙ sym (ap (λ q. swap_line k (answer q) text) x.1))
    (cases_lt (length t) 33)

-- what is printed does not depend on the text that a refused call leaves
by_outcome : (k : ℕ) (o : Outcome) (s t : List ℕ) → swap_line k (answer o) (left o s) ≡ swap_line k (answer o) (left o t)
by_outcome k (refused fault) s t = refl
by_outcome k (swapped image) s t = refl

line_alike : (k : ℕ) (o q : Outcome) (s t : List ℕ) → o ≡ q → swap_line k (answer o) (left o s) ≡ swap_line k (answer q) (left q t)
line_alike k o q s t e = ap (λ x. swap_line k (answer x) (left x s)) e ∙ by_outcome k q s t

module _ (m : Meaning) (before after : List (Option Held)) (k : ℕ) (t : List ℕ) (p : Printed) where
  sound : (h : List Call) → Through m before h → (v : Held) → held m h k ≡ Some v → remade v.shape ≡ Ok v.shape
  sound h through v e = (through.sound k v e).rebuilds

  pub swap_cut : (way : Way) → AnsweredBy m before after (Some (asked way k (take 33 t))) p → AnsweredBy m before after (Some (asked way k t)) p
  swap_cut Forward a = record {
    printed = a.printed ∙ line_alike k _ _ (take 33 t) t (asked_lane m m.forward t k (lane_at before k));
    lanes = a.lanes;
    short = a.short;
    follows = λ h through.
        let x = a.follows h through in (
          record { eight = x.0.eight; each = x.0.each; sound = x.0.sound },
          x.1 ∙ line_alike k _ _ (take 33 t) t (swapped_lane m m.forward t k (held m h k) (sound h through)),
        );
  }
  swap_cut Backward a = record {
    printed = a.printed ∙ line_alike k _ _ (take 33 t) t (asked_lane m m.backward t k (lane_at before k));
    lanes = a.lanes;
    short = a.short;
    follows = λ h through.
        let x = a.follows h through in (
          record { eight = x.0.eight; each = x.0.each; sound = x.0.sound },
          x.1 ∙ line_alike k _ _ (take 33 t) t (swapped_lane m m.backward t k (held m h k) (sound h through)),
        );
  }

-- a swap that a coder answered, with the text that it leaves, of which 32 bytes are printed
module _ {T : Type 0} (meaning : T → Meaning) (before after : Coder T) (k : ℕ) (t text : List ℕ) (r : Result Unit Fault) (p : Printed) (same_length : length text ≡ length t) (says : p ≡ swap_line k r (take 32 text)) (short : length p ≤ 48) where
  abbrev m : Meaning
  m = meaning before.cipher

  abbrev outcome : (Form → List ℕ → List ℕ → List ℕ) → Outcome
  outcome go = on_lane k (if_held (lane_at before.lanes k) (asked_text m go t))

  printed : (go : Form → List ℕ → List ℕ → List ℕ) → r ≡ answer (outcome go) → p ≡ swap_line k r text
  printed go is =
      says
      ∙ ap (λ a. swap_line k a (take 32 text)) is
      ∙ whole k (outcome go) t text (long_refused m go t k (lane_at before.lanes k)) same_length
      ∙ sym (ap (λ a. swap_line k a text) is)

  abbrev reply : Reply
  reply = record { answer = r; text = text }

  pub swap_said : (way : Way) → Called meaning before after (turns way k t) reply → Answered meaning before after (Some (asked way k t)) p
  swap_said Forward c = record {
    answered = made m before.lanes after.lanes (Some (mask k t)) p short (masks k t) (λ y. swap_line k y.answer y.text) reply refl (λ say. refl)
        (ap (λ y. swap_line k y.answer y.text) c.reply) c.lanes c.follows (printed m.forward (ap (λ y. y.answer) c.reply));
    same = c.same;
  }
  swap_said Backward c = record {
    answered = made m before.lanes after.lanes (Some (unmask k t)) p short (unmasks k t) (λ y. swap_line k y.answer y.text) reply refl (λ say. refl)
        (ap (λ y. swap_line k y.answer y.text) c.reply) c.lanes c.follows (printed m.backward (ap (λ y. y.answer) c.reply));
    same = c.same;
  }
