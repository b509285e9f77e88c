-- A swap that is not refused is undone by the swap back. Assumes nothing.
use Rattle.std.proofs.Common.{◌≡◌, ℕ, List, Some, None, Ok, Err, Option, Result, refl, ap, ◌∙◌, arith}
use Rattle.faults.specs.declared.fault.Fault.{Fault}
use Rattle.formats.specs.Forms.{Form}
use Rattle.ciphers.specs.Meanings.{Meaning, Free, Undone, Laws}
use Rattle.ciphers.specs.Swaps.{checked, swapped, unless_barred, unless_refused, swap, onward, homeward, answer, left}
use Rattle.ciphers.proofs.Checked.{Passed, passed, passing, swap_passed}

parts : (r : Result Unit Fault) (b : Option ℕ) (image : List ℕ) → Ok tt ≡ answer (unless_refused r (unless_barred b image)) → (Ok tt ≡ r) × (b ≡ None)
parts (Ok u) None image e = (refl, refl)
parts (Ok u) (Some d) image e = let z : ◌≡◌ {A = ℕ} 0 1 = cc in absurd (omega arith)
parts (Err fault) b image e = let z : ◌≡◌ {A = ℕ} 0 1 = cc in absurd (omega arith)

module _ (m : Meaning) (laws : Laws m) (f : Form) (run c : List ℕ) (ok : Ok tt ≡ answer (onward m f run c)) where
  checks : (Ok tt ≡ checked (m.taken f) f run c) × (m.barred f c ≡ None)
  unfolding swap
  checks = parts (checked (m.taken f) f run c) (m.barred f c) (m.forward f run c) ok

  passes : Passed (m.taken f) f run c
  passes = passed (m.taken f) f run c checks.0

  free : Free m f c
  free = record { code = passes.code; open_to = checks.1 }

  law : Undone m f (m.forward f run) (m.backward f run)
  law = laws.onward f run passes.takes

  there : onward m f run c ≡ swapped (m.forward f run c)
  there = swap_passed m m.forward f run c (m.taken f) refl checks.0 checks.1

  back : homeward m f run (m.forward f run c) ≡ swapped c
  back =
      let next = law.stays c free in
      swap_passed m m.backward f run (m.forward f run c) (m.taken f) refl (passing (m.taken f) f run (m.forward f run c) passes.name passes.takes next.code) next.open_to
      ∙ ap swapped (law.undoes c free)

  -- a cipher of the same meaning swaps the image back
  module _ (now : Meaning) (same : now ≡ m) (next : List ℕ) (image : next ≡ left (onward m f run c) c) where
    again : homeward now f run next ≡ swapped c
    again = ap (λ n. homeward n f run next) same ∙ ap (homeward m f run) (image ∙ ap (λ o. left o c) there) ∙ back

    pub back_value : (r : Result Unit Fault) → r ≡ answer (homeward now f run next) → r ≡ answer (onward m f run c)
    back_value r e = e ∙ ap answer again ∙ ok

    pub back_after : (last : List ℕ) → last ≡ left (homeward now f run next) next → last ≡ c
    back_after last e = e ∙ ap (λ o. left o next) again
