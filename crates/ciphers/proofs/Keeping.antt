-- Kept index sequences: one is made, put in the place of another, and found again. Assumes nothing.
use Rattle.std.proofs.Common.{◌≡◌, ℕ, zero, suc, ◌<◌, true, cond, ◌&&◌, Some, None, Option, List, [], ◌∷◌, ◌++◌, map, length, get_or, take, set, MatchOption, option_map, sym, ap, ◌∙◌, arith}
use Rattle.std.specs.List.{AllWithin, HoldsAt}
use Rattle.std.proofs.lemmas.List.{take_at, length-set, length-map, map-set, get_or-map, get_or-set_same}
use Rattle.std.proofs.lemmas.Bool.{and_from, cond-true}
use Rattle.alphabets.specs.RunNames.{legal}
use Rattle.keys.specs.declared.label.Sequence.{Sequence}
use Rattle.keys.specs.Sequences.{index_sequence, sized, indices_left}
use Rattle.ciphers.specs.declared.fast.kept.KeptSequence.{KeptSequence}
use Rattle.formats.specs.Forms.{Form, layers_of}
use Rattle.ciphers.specs.declared.fast.Fast.{Fast}
use Rattle.ciphers.specs.Held.{network_of}
use Rattle.ciphers.specs.Cores.{core}
use Rattle.ciphers.specs.Ways.{map_of}
use Rattle.ciphers.specs.Networks.{networked, indices_of}
use Rattle.ciphers.specs.Networked.{by_form}
use Rattle.ciphers.specs.declared.way.Way.{Way}
use Rattle.ciphers.specs.declared.way.Way.TheVariants.{Forward, Backward}
use Rattle.keys.specs.Distances.{w_of, w'_of}
use Rattle.ciphers.specs.Kept.{Label, label, label_of, labels, held_indices, defined_of, defined_indices, Stands, Defined}

pub same_label : (a a' n n' : ℕ) (r r' : List ℕ) → a ≡ a' → n ≡ n' → r ≡ r' → label a n r ≡ label a' n' r'
same_label a a' n n' r r' ea en er = ap (λ x. label x n r) ea ∙ (ap (λ x. label a' x r) en ∙ ap (label a' n') er)

-- a search for a label finds a place at which it stands, or there is none
blank : KeptSequence
blank = record { label = None; indices = [] }

abbrev IsNot : Label → KeptSequence → Type 0
IsNot l e = label_of e ≡ Some l → ⊥

pub found_first : (l : Label) (kept : List KeptSequence) (r : Option ℕ)
    → MatchOption r (AllWithin (IsNot l) kept 0 (length kept)) (λ i. (i < length kept) × HoldsAt (λ e. label_of e ≡ Some l) kept i × AllWithin (IsNot l) kept 0 i)
    → MatchOption r ((k : ℕ) → Stands l kept k → ⊥) (Stands l kept)
found_first l kept None h = λ k at. h k blank (omega arith) at.0 (sym (get_or-map label_of kept k blank None at.0) ∙ at.1)
found_first l kept (Some i) h = (h.0, get_or-map label_of kept i blank None h.0 ∙ h.1 blank)

module _ (key : List ℕ) (s : Sequence) (a : ℕ) where
  -- a call that is not refused writes the sequence at the front
  pub filled : (len n : ℕ) (run old seq rest : List ℕ) → sized a len n ≡ true → legal run ≡ true
      → length old ≡ n → length seq ≡ length old → seq ≡ indices_left key s a len run old
      → take n (seq ++ rest) ≡ defined_of key s a (label len n run)
  filled len n run old seq rest fit name lo ls e =
      take_at seq rest n (ls ∙ lo)
      ∙ (e
      ∙ (ap (λ x. cond (sized a len x && legal run) (index_sequence key s a len run x) old) lo
      ∙ cond-true (sized a len n && legal run) _ _ (and_from _ _ fit name)))

  pub filled_in : (k : Label) (len n : ℕ) (run : List ℕ) → k ≡ label len n run → (old seq rest : List ℕ) → sized a len n ≡ true → legal run ≡ true
      → length old ≡ n → length seq ≡ length old → seq ≡ indices_left key s a len run old
      → Some (take k.layers (seq ++ rest)) ≡ Some (defined_of key s a (label len n run))
  filled_in k len n run ek old seq rest fit name lo ls e =
      ap (λ (x : Label). Some (take x.layers (seq ++ rest))) ek ∙ ap Some (filled len n run old seq rest fit name lo ls e)

  -- what one sequence holds does not bear on the others
  pub still_defined : (kept : List KeptSequence) (i : ℕ) (e : KeptSequence) → held_indices e ≡ defined_indices key s a e → Defined key s a kept → Defined key s a (set kept i e)
  still_defined kept i e q h =
      map-set held_indices kept i e
      ∙ (ap (λ x. set x i (held_indices e)) h
      ∙ (ap (set (map (defined_indices key s a) kept) i) q ∙ sym (map-set (defined_indices key s a) kept i e)))

  -- a sequence that is found by its label is the one that the label defines
  pub found_is_defined : (l : Label) (kept : List KeptSequence) (i : ℕ) → Defined key s a kept → Stands l kept i
      → take l.layers (get_or (map (λ e. e.indices) kept) i []) ≡ defined_of key s a l
  found_is_defined l [] i h q = absurd (omega (arith, q.0))
  found_is_defined l (e ∷ kept) zero h q =
      let first : held_indices e ≡ defined_indices key s a e = cc in
      let held : Some (take l.layers e.indices) ≡ held_indices e = ap (option_map (λ (x : Label). take x.layers e.indices)) (sym q.1) in
      let defined : defined_indices key s a e ≡ Some (defined_of key s a l) = ap (option_map (defined_of key s a)) q.1 in
      let both : Some (take l.layers e.indices) ≡ Some (defined_of key s a l) = held ∙ (first ∙ defined) in
      cc
  found_is_defined l (e ∷ kept) (suc i) h q =
      let others : Defined key s a kept = cc in
      found_is_defined l kept i others (omega (arith, q.0), q.1)

-- a sequence that was made for a label, by the key's own numbers, leaves all as defined
pub redefined : (key : List ℕ) (s : Sequence) (a : ℕ) (s' : Sequence) (a' : ℕ) → s' ≡ s → a' ≡ a → (l : Label) (kept : List KeptSequence) (i : ℕ) (e : KeptSequence)
    → label_of e ≡ Some l → held_indices e ≡ Some (defined_of key s' a' l) → Defined key s a kept → Defined key s a (set kept i e)
redefined key s a s' a' es ea l kept i e el eh h =
    let same : Some (defined_of key s' a' l) ≡ Some (defined_of key s a l) = ap (λ x. Some (defined_of key x a' l)) es ∙ ap (λ x. Some (defined_of key s x l)) ea in
    still_defined key s a kept i e (eh ∙ (same ∙ sym (ap (option_map (defined_of key s a)) el))) h

pub placed : (l : Label) (kept : List KeptSequence) (i : ℕ) (e : KeptSequence) → i < length kept → label_of e ≡ Some l → Stands l (set kept i e) i
placed l kept i e h q = (
  omega (arith, length-set kept i e),
  ap (λ (x : List (Option Label)). get_or x i None) (map-set label_of kept i e) ∙ (get_or-set_same (labels kept) i (label_of e) None (omega (arith, length-map kept label_of)) ∙ q),
)

-- so is a network's sequence of a form and a run, where it is kept
pub found_indices : (s : Fast) (f : Form) (run : List ℕ) (i : ℕ) → Stands (label f.len (layers_of f) run) s.kept i
    → take (layers_of f) (get_or (map (λ (x : KeptSequence). x.indices) s.kept) i []) ≡ indices_of (network_of s) f run
unfolding indices_of
found_indices s f run i at = found_is_defined (network_of s).key (network_of s).sequence (network_of s).radix (label f.len (layers_of f) run) s.kept i s.defined at

-- the core by that sequence is the network's map
pub core_is_mapped : (s : Fast) (way : Way) (f : Form) (run code is : List ℕ) (w v : ℕ) → w ≡ w_of f.len → v ≡ w'_of f.len → is ≡ indices_of (network_of s) f run
    → core way s.pool w v is code ≡ map_of (networked (network_of s)) way f run code
core_is_mapped s Forward f run code is w v ew ev ei = by_form (network_of s) f w v ew ev (λ x y all. core Forward s.pool x y all code) run is ei
core_is_mapped s Backward f run code is w v ew ev ei = by_form (network_of s) f w v ew ev (λ x y all. core Backward s.pool x y all code) run is ei
