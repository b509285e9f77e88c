-- A code swapped under one run after the other: a step, and a stop. Assumes nothing.
use Rattle.std.proofs.Common.{◌≡◌, ℕ, ◌+◌, ◌<◌, ◌≤◌, List, [], ◌∷◌, length, get_or, drop, Ok, Err, sym, refl, ap, ◌∙◌, arith}
use Rattle.std.proofs.lemmas.List.{drop_more, drop_all}
use Rattle.faults.specs.declared.fault.Fault.{Fault}
use Rattle.formats.specs.Forms.{Form}
use Rattle.ciphers.specs.Meanings.{Meaning}
use Rattle.ciphers.specs.Networks.{Network, networked, indices_of}
use Rattle.ciphers.specs.Swaps.{Outcome, refused, swapped, swap, onward, answer, left}
use Rattle.network_c.specs.declared.ffi.Run.{Run}
use Rattle.network_c.specs.Exports.{plan_for, network_for}
use Rattle.network_c.specs.Under.{Ended, go_on, under}

goes_on : (o : Outcome) (c : List ℕ) (rest : List ℕ → Ended) → Ok tt ≡ answer o → rest (left o c) ≡ go_on o c rest
goes_on (swapped image) c rest e = refl
goes_on (refused fault) c rest e = let z : ◌≡◌ {A = ℕ} 0 1 = cc in absurd (omega arith)

stops : (o : Outcome) (c : List ℕ) (rest : List ℕ → Ended) (fault : Fault) → Err fault ≡ answer o → record { code = left o c; answer = Err fault } ≡ go_on o c rest
stops (swapped image) c rest fault e = let z : ◌≡◌ {A = ℕ} 0 1 = cc in absurd (omega arith)
stops (refused why) c rest fault e = ap (λ a. record { code = c; answer = a }) e

same_rest : (o : Outcome) (c : List ℕ) (f g : List ℕ → Ended) → ((x : List ℕ) → f x ≡ g x) → go_on o c f ≡ go_on o c g
same_rest (swapped image) c f g e = e image
same_rest (refused fault) c f g e = refl

module _ (swaps : List ℕ → List ℕ → Outcome) (runs : List Run) (k : ℕ) (c : List ℕ) where
  abbrev name : List ℕ
  name = (get_or runs k (record { name = [] })).name

  pub under_more : k < length runs → Ok tt ≡ answer (swaps name c) → under swaps (drop (k + 1) runs) (left (swaps name c) c) ≡ under swaps (drop k runs) c
  unfolding under
  under_more h e = goes_on (swaps name c) c (under swaps (drop (k + 1) runs)) e ∙ ap (λ l. under swaps l c) (sym (drop_more runs k (record { name = [] }) h))

  pub under_stop : k < length runs → (fault : Fault) → Err fault ≡ answer (swaps name c) → record { code = left (swaps name c) c; answer = Err fault } ≡ under swaps (drop k runs) c
  unfolding under
  under_stop h fault e = stops (swaps name c) c (under swaps (drop (k + 1) runs)) fault e ∙ ap (λ l. under swaps l c) (sym (drop_more runs k (record { name = [] }) h))

  pub under_none : length runs ≤ k → record { code = c; answer = Ok tt } ≡ under swaps (drop k runs) c
  unfolding under
  under_none h = ap (λ l. under swaps l c) (sym (drop_all k runs h))

-- a swap by a cipher that means the same
pub same_swap : (t : Meaning → Form → List ℕ → List ℕ → Outcome) (m n : Meaning) (f : Form) (run c : List ℕ) → m ≡ n → t m f run c ≡ t n f run c
same_swap t m n f run c e = ap (λ x. t x f run c) e

-- masking looks into no inverse
pub by_plan : (net : Network) (f : Form) (runs : List Run) (c : List ℕ) → under (onward (networked net) f) runs c ≡ under (onward (networked (network_for (plan_for net f) [])) f) runs c
unfolding under swap indices_of
by_plan net f [] c = refl
by_plan net f (run ∷ runs) c = same_rest (onward (networked net) f run.name c) c _ _ (by_plan net f runs)
