-- A swap of a text, and the way back. Assumes nothing.
use Rattle.std.proofs.Common.{◌≡◌, ℕ, List, Some, None, Ok, Err, Option, Result, sym, refl, ap, ◌∙◌, arith}
use Rattle.faults.specs.declared.fault.Fault.{Fault}
use Rattle.formats.specs.Codes.{text_verdict, as_symbols, as_bytes}
use Rattle.formats.specs.Forms.{Form}
use Rattle.formats.proofs.Texts.{back_and_forth}
use Rattle.ciphers.specs.Meanings.{Meaning, Free, Undone}
use Rattle.ciphers.specs.Swaps.{Outcome, refused, swapped, unless_refused, unless_barred, barred_past}
use Rattle.coder.specs.Machine.{Held, swapped_text}
use Rattle.coder.proofs.Handed.{read_code}

refused≢swapped : {e : Fault} {t : List ℕ} → refused e ≡ swapped t → ⊥
refused≢swapped q = let z : ◌≡◌ {A = ℕ} 0 1 = cc in omega arith

pub same_swapped : {s t : List ℕ} → swapped s ≡ swapped t → s ≡ t
same_swapped q = cc

-- what is swapped was neither refused nor barred
parts : (r : Result Unit Fault) (b : Option ℕ) (image t : List ℕ) → unless_refused r (unless_barred (barred_past b) image) ≡ swapped t → (r ≡ Ok tt) × (b ≡ None) × (image ≡ t)
parts (Ok u) None image t e = (refl, refl, same_swapped e)
parts (Ok u) (Some depth) image t e = absurd (refused≢swapped e)
parts (Err fault) b image t e = absurd (refused≢swapped e)

-- where a map is undone by another, a text that the one gives is given back by the other
pub swap_back : (m : Meaning) (go undo : Form → List ℕ → List ℕ → List ℕ) (u : Held) (x t : List ℕ) → Undone m u.shape (go u.shape u.run) (undo u.shape u.run) →
    swapped_text m go x u ≡ swapped t → swapped_text m undo t u ≡ swapped x
unfolding swapped_text
swap_back m go undo u x t law e =
    let f = u.shape in
    let a = f.alphabet in
    let texts = back_and_forth f in
    let c = as_symbols a x in
    let y = go f u.run c in
    let p = parts (text_verdict f x) (m.barred f c) (as_bytes a y) t e in
    let given : Free m f c = record { code = read_code f x p.0; open_to = p.1 } in
    let there = law.stays c given in
    let read : text_verdict f t ≡ Ok tt = ap (text_verdict f) (sym p.2) ∙ texts.text_passes (as_bytes a y) (texts.bytes y there.code) in
    let back : as_symbols a t ≡ y = ap (as_symbols a) (sym p.2) ∙ texts.same_code y there.code in
    let again : List ℕ → Outcome = λ z. unless_barred (barred_past (m.barred f z)) (as_bytes a (undo f u.run z)) in
    ap (λ r. unless_refused r (again (as_symbols a t))) read ∙
    (ap again back ∙
    (ap (λ b. unless_barred (barred_past b) (as_bytes a (undo f u.run y))) there.open_to ∙
    (ap (λ z. swapped (as_bytes a z)) (law.undoes c given) ∙ ap swapped (texts.same_text x (texts.only_texts x p.0)))))
