-- A call that hands a code to a cipher below, and what comes up. Assumes nothing.
use Rattle.std.specs.Prelude.{◌≡◌, ℕ, Bool, true, false, cond, List, Some, None, Ok, Err, Option, Result, refl}
use Rattle.std.proofs.Math.Path.{sym, ap}
use Rattle.std.proofs.Common.{◌∙◌}
use Rattle.faults.specs.declared.fault.Cause.TheVariants.{RunName, ShapeNotTaken}
use Rattle.faults.specs.declared.fault.Fault.{Fault}
use Rattle.formats.specs.Codes.{code_verdict}
use Rattle.faults.specs.Faults.{own}
use Rattle.formats.specs.Forms.{Form}
use Rattle.alphabets.specs.RunNames.{legal}
use Rattle.ciphers.specs.Meanings.{Meaning}
use Rattle.ciphers.specs.Swaps.{checked, Outcome, refused, unless_barred, unless_refused, swap, answer, left, barred_past, passed_up}
use Rattle.ciphers.proofs.Checked.{swap_checked, up_answer}

-- what is not taken is refused by the checks, whatever the code
shut : (g : Bool) (v : Result Unit Fault) (o : Outcome) (c : List ℕ) →
    (answer (unless_refused (cond g (cond false v (Err (own ShapeNotTaken))) (Err (own RunName))) o) ≡ cond g (cond false v (Err (own ShapeNotTaken))) (Err (own RunName)))
    × (left (unless_refused (cond g (cond false v (Err (own ShapeNotTaken))) (Err (own RunName))) o) c ≡ c)
shut true v o c = (refl, refl)
shut false v o c = (refl, refl)

module _ (m : Meaning) (go : Form → List ℕ → List ℕ → List ℕ) (f : Form) (run c : List ℕ) (out : false ≡ m.taken f) where
  abbrev otherwise : Outcome
  otherwise = unless_barred (m.barred f c) (go f run c)

  pub shut_value : {result : Result Unit Fault} → result ≡ checked false f run c → result ≡ answer (swap m go f run c)
  unfolding swap checked
  shut_value is =
      is ∙ sym (shut (legal run) (code_verdict f c) otherwise c).0 ∙ ap (λ t. answer (unless_refused (checked t f run c) otherwise)) out

  pub shut_after : c ≡ left (swap m go f run c) c
  unfolding swap checked
  shut_after = sym (shut (legal run) (code_verdict f c) otherwise c).1 ∙ ap (λ t. left (unless_refused (checked t f run c) otherwise) c) out

-- what the checks refuse is answered so, and the code stays
pub stopped : {o : Outcome} {c : List ℕ} {fault passed : Fault} {result : Result Unit Fault} → result ≡ Err passed → passed ≡ fault → o ≡ refused fault
    → (result ≡ answer o) × (c ≡ left o c)
stopped {c = c} is same o-is = (is ∙ ap Err same ∙ sym (ap answer o-is), sym (ap (λ o. left o c) o-is))

-- what comes up, where a code is barred above exactly where it is below, one deeper
module _ (b : Option ℕ) (y z : List ℕ) {above below : Outcome} (up : above ≡ unless_barred (barred_past b) z) (down : below ≡ unless_barred b y) where
  pub up_value : {result : Result Unit Fault} → result ≡ answer below → passed_up result ≡ answer above
  up_value is = ap passed_up (is ∙ ap answer down) ∙ up_answer b y z ∙ sym (ap answer up)

-- and the code is left as the one below left it
up_left : (b : Option ℕ) (y c : List ℕ) → left (unless_barred b y) c ≡ left (unless_barred (barred_past b) y) c
up_left None y c = refl
up_left (Some d) y c = refl

-- the whole code is handed to a cipher that takes its form
module _ (m side : Meaning) (up go : Form → List ℕ → List ℕ → List ℕ) (f : Form) (run c : List ℕ)
    (bars : m.barred f c ≡ barred_past (side.barred f c)) (goes : up f run c ≡ go f run c)
    (t : Bool) (takes : t ≡ m.taken f) (side_takes : t ≡ side.taken f) (ok : Ok tt ≡ checked t f run c) where
  above : swap m up f run c ≡ unless_barred (barred_past (side.barred f c)) (go f run c)
  above =
      swap_checked m up f run c t takes ok
      ∙ ap (λ b. unless_barred b (up f run c)) bars
      ∙ ap (unless_barred (barred_past (side.barred f c))) goes

  below : swap side go f run c ≡ unless_barred (side.barred f c) (go f run c)
  below = swap_checked side go f run c t side_takes ok

  pub side_value : {result : Result Unit Fault} → result ≡ answer (swap side go f run c) → passed_up result ≡ answer (swap m up f run c)
  side_value is = up_value (side.barred f c) (go f run c) (go f run c) above below is

  pub side_after : {code : List ℕ} → code ≡ left (swap side go f run c) c → code ≡ left (swap m up f run c) c
  side_after is =
      is ∙ ap (λ o. left o c) below ∙ up_left (side.barred f c) (go f run c) c ∙ sym (ap (λ o. left o c) above)
