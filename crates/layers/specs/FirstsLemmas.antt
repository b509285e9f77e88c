-- The first of two ciphers: its laws, and a call of it. Assumes nothing.
use Rattle.std.specs.Prelude.{◌≡◌, ℕ, Bool, true, false, cond, ◌||◌, List, Ok, Err, Result, refl}
use Rattle.std.proofs.Common.{sym, ap, ◌∙◌, subst, inl, inr}
use Rattle.std.proofs.lemmas.Bool.{cases_Bool, cond-true, cond-false, or_left}
use Rattle.faults.specs.declared.fault.Fault.{Fault}
use Rattle.formats.specs.Forms.{Form}
use Rattle.ciphers.specs.Meanings.{Meaning, Free, Undone, Laws}
use Rattle.ciphers.specs.declared.way.Way.{Way}
use Rattle.ciphers.specs.declared.way.Way.TheVariants.{Forward, Backward}
use Rattle.ciphers.specs.Ways.{map_of}
use Rattle.ciphers.specs.Swaps.{checked, refused, swap, answer, left, barred_past, passed_up}
use Rattle.ciphers.proofs.Checked.{swap_refused, open_below}
use Rattle.layers.specs.Firsts.{preferring}
use Rattle.layers.specs.LayerLaws.{Prefers}
use Rattle.layers.specs.Handed.{side_value, side_after}

or_right_is : (a b : Bool) → a ≡ false → (a || b) ≡ b
or_right_is a b e = ap (λ t. t || b) e

module _ (l r : Meaning) where
  pub prefers : Prefers l r
  prefers = record {
    left_takes = λ f t. or_left (l.taken f) (r.taken f) t;
    left_bars = λ f c t. ap barred_past (cond-true (l.taken f) (l.barred f c) (r.barred f c) t);
    left_swaps = λ f run c t. cond-true (l.taken f) (l.forward f run c) (r.forward f run c) t;
    left_back = λ f run c t. cond-true (l.taken f) (l.backward f run c) (r.backward f run c) t;
    right_takes = λ f t. or_right_is (l.taken f) (r.taken f) t;
    right_bars = λ f c t. ap barred_past (cond-false (l.taken f) (l.barred f c) (r.barred f c) t);
    right_swaps = λ f run c t. cond-false (l.taken f) (l.forward f run c) (r.forward f run c) t;
    right_back = λ f run c t. cond-false (l.taken f) (l.backward f run c) (r.backward f run c) t;
  }

-- a layer that hands a form to one side
module _ (m side : Meaning) (f : Form) (bars : (c : List ℕ) → m.barred f c ≡ barred_past (side.barred f c)) where
  free_in : (c : List ℕ) → Free m f c → Free side f c
  free_in c r = record { code = r.code; open_to = open_below (side.barred f c) (sym (bars c) ∙ r.open_to) }

  free_out : (c : List ℕ) → Free side f c → Free m f c
  free_out c r = record { code = r.code; open_to = bars c ∙ ap barred_past r.open_to }

  lift : (go undo up_go up_undo : List ℕ → List ℕ) → ((c : List ℕ) → up_go c ≡ go c) → ((c : List ℕ) → up_undo c ≡ undo c) → Undone side f go undo → Undone m f up_go up_undo
  lift go undo up_go up_undo g u law = record {
    stays = λ c r. subst (λ (x : List ℕ). Free m f x) (sym (g c)) (free_out (go c) (law.stays c (free_in c r)));
    undoes = λ c r. u (up_go c) ∙ ap undo (g c) ∙ law.undoes c (free_in c r);
  }

pub first_laws : (l r : Meaning) → Laws l → Laws r → Laws (preferring l r)
first_laws l r left_laws right_laws =
    let m = preferring l r in
    let is = prefers l r in
    record {
      onward = λ f run t.
          elim (cases_Bool (l.taken f)) [
            | inl yep ↦
                lift m l f (λ c. is.left_bars f c yep) (l.forward f run) (l.backward f run) (m.forward f run) (m.backward f run)
                (λ c. is.left_swaps f run c yep) (λ c. is.left_back f run c yep) (left_laws.onward f run yep)
            | inr nope ↦
                lift m r f (λ c. is.right_bars f c nope) (r.forward f run) (r.backward f run) (m.forward f run) (m.backward f run)
                (λ c. is.right_swaps f run c nope) (λ c. is.right_back f run c nope) (right_laws.onward f run (sym (is.right_takes f nope) ∙ t))
          ];
      homeward = λ f run t.
          elim (cases_Bool (l.taken f)) [
            | inl yep ↦
                lift m l f (λ c. is.left_bars f c yep) (l.backward f run) (l.forward f run) (m.backward f run) (m.forward f run)
                (λ c. is.left_back f run c yep) (λ c. is.left_swaps f run c yep) (left_laws.homeward f run yep)
            | inr nope ↦
                lift m r f (λ c. is.right_bars f c nope) (r.backward f run) (r.forward f run) (m.backward f run) (m.forward f run)
                (λ c. is.right_back f run c nope) (λ c. is.right_swaps f run c nope) (right_laws.homeward f run (sym (is.right_takes f nope) ∙ t))
          ];
    }

-- a call, by the side that takes the form
module _ (l r : Meaning) (left_go right_go : Form → List ℕ → List ℕ → List ℕ) (f : Form) (run c : List ℕ) where
  abbrev m : Meaning
  m = preferring l r

  abbrev either : Form → List ℕ → List ℕ → List ℕ
  either h s x = cond (l.taken h) (left_go h s x) (right_go h s x)

  module _ (takes : true ≡ l.taken f) where
    left_taken : true ≡ m.taken f
    left_taken = sym (or_left (l.taken f) (r.taken f) (sym takes))

    pub left_refused : {fault : Fault} → Err fault ≡ checked true f run c → swap m either f run c ≡ refused fault
    left_refused {fault} e = swap_refused m either f run c true left_taken fault e

    module _ (ok : Ok tt ≡ checked true f run c) where
      pub left_value : {result : Result Unit Fault} → result ≡ answer (swap l left_go f run c) → passed_up result ≡ answer (swap m either f run c)
      left_value is =
          side_value m l either left_go f run c ((prefers l r).left_bars f c (sym takes)) (cond-true (l.taken f) (left_go f run c) (right_go f run c) (sym takes)) true left_taken takes ok is

      pub left_after : {code : List ℕ} → code ≡ left (swap l left_go f run c) c → code ≡ left (swap m either f run c) c
      left_after is =
          side_after m l either left_go f run c ((prefers l r).left_bars f c (sym takes)) (cond-true (l.taken f) (left_go f run c) (right_go f run c) (sym takes)) true left_taken takes ok is

  module _ (out : false ≡ l.taken f) {t : Bool} (takes : t ≡ r.taken f) where
    right_taken : t ≡ m.taken f
    right_taken = takes ∙ sym ((prefers l r).right_takes f (sym out))

    pub right_refused : {fault : Fault} → Err fault ≡ checked t f run c → swap m either f run c ≡ refused fault
    right_refused {fault} e = swap_refused m either f run c t right_taken fault e

    module _ (ok : Ok tt ≡ checked t f run c) where
      pub right_value : {result : Result Unit Fault} → result ≡ answer (swap r right_go f run c) → passed_up result ≡ answer (swap m either f run c)
      right_value is =
          side_value m r either right_go f run c ((prefers l r).right_bars f c (sym out)) (cond-false (l.taken f) (left_go f run c) (right_go f run c) (sym out)) t right_taken takes ok is

      pub right_after : {code : List ℕ} → code ≡ left (swap r right_go f run c) c → code ≡ left (swap m either f run c) c
      right_after is =
          side_after m r either right_go f run c ((prefers l r).right_bars f c (sym out)) (cond-false (l.taken f) (left_go f run c) (right_go f run c) (sym out)) t right_taken takes ok is

-- each way, the map of the pair is that of the side that takes the form
pub by_sides : (l r : Meaning) (way : Way) (f : Form) (run c : List ℕ) →
    swap (preferring l r) (map_of (preferring l r) way) f run c ≡ swap (preferring l r) (λ h s x. cond (l.taken h) (map_of l way h s x) (map_of r way h s x)) f run c
by_sides l r Forward f run c = refl
by_sides l r Backward f run c = refl
