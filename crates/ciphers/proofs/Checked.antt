-- The refusals that every cipher finds by itself, way by way. Assumes nothing.
use Rattle.std.proofs.Common.{◌≡◌, ℕ, Bool, true, false, cond, List, Some, None, Ok, Err, Option, Result, sym, refl, ap, ◌∙◌, arith}
use Rattle.std.proofs.lemmas.Bool.{cond-true, cond-false}
use Rattle.faults.specs.declared.fault.Cause.TheVariants.{RunName, ShapeNotTaken}
use Rattle.faults.specs.declared.fault.Fault.{Fault}
use Rattle.formats.specs.Codes.{Code, code_verdict}
use Rattle.formats.proofs.Texts.{back_and_forth}
use Rattle.faults.specs.Faults.{own}
use Rattle.formats.specs.Forms.{Form}
use Rattle.alphabets.specs.RunNames.{legal, name_verdict}
use Rattle.ciphers.specs.Meanings.{Meaning}
use Rattle.ciphers.specs.Swaps.{checked, refused, swapped, unless_barred, unless_refused, swap, answer, barred_past, passed_up}

-- what a check of a run's name says
refused_by : (g : Bool) (e : Fault) → ◌≡◌ {A = Result Unit Fault} (Err e) (cond g (Ok tt) (Err (own RunName))) → (g ≡ false) × (e ≡ own RunName)
refused_by true e h = let z : ◌≡◌ {A = ℕ} 0 1 = cc in absurd (omega arith)
refused_by false e h = (refl, cc)

verdict_by : (g : Bool) → ◌≡◌ {A = Result Unit Fault} (Ok tt) (cond g (Ok tt) (Err (own RunName))) → g ≡ true
verdict_by true h = refl
verdict_by false h = let z : ◌≡◌ {A = ℕ} 0 1 = cc in absurd (omega arith)

pub name_refused : (run : List ℕ) (e : Fault) → Err e ≡ name_verdict run → (legal run ≡ false) × (e ≡ own RunName)
name_refused run e h = refused_by (legal run) e h

pub name_passed : (run : List ℕ) → Ok tt ≡ name_verdict run → legal run ≡ true
name_passed run h = verdict_by (legal run) h

module _ (taken : Bool) (f : Form) (run c : List ℕ) where
  pub bad_run : legal run ≡ false → checked taken f run c ≡ Err (own RunName)
  unfolding checked
  bad_run e = cond-false (legal run) _ _ e

  pub not_taken : legal run ≡ true → taken ≡ false → checked taken f run c ≡ Err (own ShapeNotTaken)
  unfolding checked
  not_taken e t = cond-true (legal run) _ _ e ∙ cond-false taken _ _ t

  pub by_code : legal run ≡ true → taken ≡ true → checked taken f run c ≡ code_verdict f c
  unfolding checked
  by_code e t = cond-true (legal run) _ _ e ∙ cond-true taken _ _ t

-- what a passed check says
pub record Passed (taken : Bool) (f : Form) (run c : List ℕ) : Type 0 where
  pub name : legal run ≡ true
  pub takes : taken ≡ true
  pub code : Code f c

passed_by : (g t : Bool) (o : Result Unit Fault) → ◌≡◌ {A = Result Unit Fault} (Ok tt) (cond g (cond t o (Err (own ShapeNotTaken))) (Err (own RunName))) → (g ≡ true) × (t ≡ true) × (o ≡ Ok tt)
passed_by true true o e = (refl, refl, sym e)
passed_by true false o e = let z : ◌≡◌ {A = ℕ} 0 1 = cc in absurd (omega arith)
passed_by false t o e = let z : ◌≡◌ {A = ℕ} 0 1 = cc in absurd (omega arith)

pub passed : (taken : Bool) (f : Form) (run c : List ℕ) → Ok tt ≡ checked taken f run c → Passed taken f run c
unfolding checked
passed taken f run c e =
    let p = passed_by (legal run) taken (code_verdict f c) e in
    record { name = p.0; takes = p.1; code = (back_and_forth f).only_codes c p.2 }

module _ (m : Meaning) (go : Form → List ℕ → List ℕ → List ℕ) (f : Form) (run c : List ℕ) (taken : Bool) (et : taken ≡ m.taken f) where
  pub swap_refused : (e : Fault) → Err e ≡ checked taken f run c → swap m go f run c ≡ refused e
  unfolding swap
  swap_refused e h =
      ap (λ t. unless_refused (checked t f run c) (unless_barred (m.barred f c) (go f run c))) (sym et) ∙ ap (λ r. unless_refused r (unless_barred (m.barred f c) (go f run c))) (sym h)

  pub swap_passed : Ok tt ≡ checked taken f run c → m.barred f c ≡ None → swap m go f run c ≡ swapped (go f run c)
  unfolding swap
  swap_passed h b =
      ap (λ t. unless_refused (checked t f run c) (unless_barred (m.barred f c) (go f run c))) (sym et)
      ∙ (ap (λ r. unless_refused r (unless_barred (m.barred f c) (go f run c))) (sym h) ∙ ap (λ o. unless_barred o (go f run c)) b)

  -- what passes the checks is swapped, unless it is barred
  pub swap_checked : Ok tt ≡ checked taken f run c → swap m go f run c ≡ unless_barred (m.barred f c) (go f run c)
  unfolding swap
  swap_checked h =
      ap (λ t. unless_refused (checked t f run c) (unless_barred (m.barred f c) (go f run c))) (sym et) ∙ ap (λ r. unless_refused r (unless_barred (m.barred f c) (go f run c))) (sym h)

-- a legal run name, a shape that is taken and a code of it pass the checks
pub passing : (taken : Bool) (f : Form) (run c : List ℕ) → legal run ≡ true → taken ≡ true → Code f c → Ok tt ≡ checked taken f run c
passing taken f run c name takes code = sym (by_code taken f run c name takes ∙ (back_and_forth f).code_passes c code)

-- a call that hands a code below and passes the answer up, where what is barred below is barred one deeper above
module _ (b : Option ℕ) where
  pub up_answer : (y z : List ℕ) → passed_up (answer (unless_barred b y)) ≡ answer (unless_barred (barred_past b) z)
  up_answer y z = elim b as (λ o. passed_up (answer (unless_barred o y)) ≡ answer (unless_barred (barred_past o) z)) [ None ↦ refl | Some d ↦ refl ]

-- where nothing is barred above, nothing is barred below
pub open_below : (b : Option ℕ) → barred_past b ≡ None → b ≡ None
open_below None e = refl
open_below (Some d) e = let z : ◌≡◌ {A = ℕ} 0 1 = cc in absurd (omega arith)
