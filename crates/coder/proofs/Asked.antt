-- A text that a coder hands to its cipher, way by way. Assumes nothing.
use Rattle.std.proofs.Common.{◌≡◌, ℕ, true, false, List, is_some, Some, None, Ok, Err, Option, sym, refl, ap, ◌∙◌, arith}
use Rattle.std.specs.Option.{option_map}
use Rattle.std.proofs.lemmas.Bool.{cond-true, cond-false}
use Rattle.alphabets.specs.declared.alphabet.Alphabet.{Alphabet}
use Rattle.faults.specs.declared.fault.Cause.TheVariants.{Lane, LaneHasRun, LaneHasNoRun}
use Rattle.faults.specs.declared.fault.Fault.{Fault}
use Rattle.formats.specs.Codes.{text_verdict, as_symbols, as_bytes}
use Rattle.faults.specs.Faults.{own}
use Rattle.formats.specs.Forms.{Form, remade}
use Rattle.formats.proofs.Texts.{back_and_forth}
use Rattle.ciphers.specs.Meanings.{Meaning}
use Rattle.ciphers.specs.Swaps.{Outcome, refused, swapped, unless_refused, swap, answer, left, passed_up}
use Rattle.coder.specs.Machine.{Held, is_lane, on_lane, if_free, if_held}
use Rattle.coder.specs.declared.record.Record.{Record}
use Rattle.coder.specs.Records.{named, running}
use Rattle.coder.specs.Steps.{rebuilt, passed_on, asked_text}

-- a lane that has a run, and one that has none
pub held_running : (o : Option Held) (u : Held) (then : Held → Outcome) → Ok u ≡ running o → if_held o then ≡ then u
held_running None u then q = let z : ◌≡◌ {A = ℕ} 0 1 = cc in absurd (omega arith)
held_running (Some w) u then q = let e : w ≡ u = cc in ap then e

pub none_running : (o : Option Held) (fault : Fault) (then : Held → Outcome) → Err fault ≡ running o → if_held o then ≡ refused fault
none_running None fault then q = let e : own LaneHasNoRun ≡ fault = cc in ap refused e
none_running (Some w) fault then q = let z : ◌≡◌ {A = ℕ} 0 1 = cc in absurd (omega arith)

-- a call on a lane, and one off the lanes
pub on_it : (k : ℕ) (o : Outcome) → is_lane k ≡ true → on_lane k o ≡ o
on_it k o e = cond-true (is_lane k) o (refused (own Lane)) e

pub off_it : (k : ℕ) (o : Outcome) → is_lane k ≡ false → on_lane k o ≡ refused (own Lane)
off_it k o e = cond-false (is_lane k) o (refused (own Lane)) e

-- a lane with a record, and one without
pub taken_lane : (r : Option Record) (u : Option Held) (o : Outcome) → option_map named r ≡ u → is_some r ≡ true → if_free u o ≡ refused (own LaneHasRun)
taken_lane None u o e q = let z : ◌≡◌ {A = ℕ} 0 1 = cc in absurd (omega arith)
taken_lane (Some r) u o e q = ap (λ v. if_free v o) (sym e)

pub free_lane : (r : Option Record) (u : Option Held) (o : Outcome) → option_map named r ≡ u → is_some r ≡ false → if_free u o ≡ o
free_lane None u o e q = ap (λ v. if_free v o) (sym e)
free_lane (Some r) u o e q = let z : ◌≡◌ {A = ℕ} 0 1 = cc in absurd (omega arith)

-- what the cipher gives, as it is passed on
passed_answer : (a : Alphabet) (s : Outcome) → passed_up (answer s) ≡ answer (passed_on a s)
passed_answer a (refused fault) = refl
passed_answer a (swapped c) = refl

passed_text : (a : Alphabet) (s : Outcome) (t : List ℕ) → as_bytes a (as_symbols a t) ≡ t → as_bytes a (left s (as_symbols a t)) ≡ left (passed_on a s) t
passed_text a (refused fault) t e = e
passed_text a (swapped c) t e = refl

-- a mask or an unmask of the text t on the lane k, which is under o
module _ (m : Meaning) (go : Form → List ℕ → List ℕ → List ℕ) (k : ℕ) (o : Option Held) (t : List ℕ) where
  abbrev given : Outcome
  given = on_lane k (if_held o (asked_text m go t))

  module _ (u : Held) (on : is_lane k ≡ true) (runs : Ok u ≡ running o) where
    under : given ≡ asked_text m go t u
    under = on_it k (if_held o (asked_text m go t)) on ∙ held_running o u (asked_text m go t) runs

    pub not_made : (e : Fault) → Err e ≡ remade u.shape → given ≡ refused e
    unfolding asked_text
    not_made e q =
        under
        ∙ ap (λ r. rebuilt r (λ f. unless_refused (text_verdict f t) (passed_on f.alphabet (swap m go f u.run (as_symbols f.alphabet t))))) (sym q)

    module _ (f : Form) (made : Ok f ≡ remade u.shape) where
      abbrev below : Outcome
      below = swap m go f u.run (as_symbols f.alphabet t)

      shaped : given ≡ unless_refused (text_verdict f t) (passed_on f.alphabet below)
      unfolding asked_text
      shaped =
          under
          ∙ ap (λ r. rebuilt r (λ f. unless_refused (text_verdict f t) (passed_on f.alphabet (swap m go f u.run (as_symbols f.alphabet t))))) (sym made)

      pub not_text : (e : Fault) → Err e ≡ text_verdict f t → given ≡ refused e
      not_text e q = shaped ∙ ap (λ r. unless_refused r (passed_on f.alphabet below)) (sym q)

      module _ (read : Ok tt ≡ text_verdict f t) where
        swaps : given ≡ passed_on f.alphabet below
        swaps = shaped ∙ ap (λ r. unless_refused r (passed_on f.alphabet below)) (sym read)

        pub asked_answer : passed_up (answer below) ≡ answer given
        asked_answer = passed_answer f.alphabet below ∙ sym (ap answer swaps)

        pub asked_text_lem : as_bytes f.alphabet (left below (as_symbols f.alphabet t)) ≡ left given t
        asked_text_lem =
            passed_text f.alphabet below t ((back_and_forth f).same_text t ((back_and_forth f).only_texts t (sym read)))
            ∙ sym (ap (λ s. left s t) swaps)
