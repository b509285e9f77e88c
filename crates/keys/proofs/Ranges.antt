-- Ranges: what the tests of a call's arguments say, and what the call comes to on each of its ways. Assumes nothing.
use Rattle.std.proofs.Common.{◌≡◌, ℕ, ◌≤◌, true, false, ◌&&◌, leb, List, length, Ok, Err, sym, ap, ◌∙◌}
use Rattle.std.proofs.lemmas.Bool.{leb-true, and_parts, and_from, and_left, and_right, cond-true, cond-false}
use Rattle.std.specs.List.{list_all}
use Rattle.faults.specs.declared.fault.Cause.TheVariants.{Range, RunName}
use Rattle.faults.specs.Faults.{own}
use Rattle.alphabets.specs.RunNames.{legal, printable, name_verdict}
use Rattle.keys.specs.declared.label.Sequence.{Sequence}
use Rattle.keys.specs.Derived.{derived_key}
use Rattle.keys.specs.Sequences.{sequence_list, first_half, start_of, stream, index_sequence, sized, sequence_verdict, indices_left}

pub legal_short : (name : List ℕ) → legal name ≡ true → length name ≤ 32
unfolding legal
legal_short name h =
    let outer = (and_parts (leb 1 (length name) && leb (length name) 32) (list_all printable name) h).0 in
    leb-true (length name) 32 (and_parts (leb 1 (length name)) (leb (length name) 32) outer).1

module _ (main : List ℕ) (s : Sequence) (radix len : ℕ) (run old : List ℕ) where
  pub refused_range : sized radix len (length old) ≡ false
      → (Err (own Range) ≡ sequence_verdict radix len run (length old)) × (old ≡ indices_left main s radix len run old)
  refused_range h =
      (sym (cond-false (sized radix len (length old)) _ _ h), sym (cond-false (sized radix len (length old) && legal run) _ _ (and_left _ (legal run) h)))

  module _ (h : sized radix len (length old) ≡ true) where
    verdict_of_name : sequence_verdict radix len run (length old) ≡ name_verdict run
    verdict_of_name = cond-true (sized radix len (length old)) _ _ h

    pub refused_name : legal run ≡ false
        → (Err (own RunName) ≡ sequence_verdict radix len run (length old)) × (old ≡ indices_left main s radix len run old)
    refused_name l = (
      sym (verdict_of_name ∙ cond-false (legal run) _ _ l),
      sym (cond-false (sized radix len (length old) && legal run) _ _ (and_right (sized radix len (length old)) (legal run) l)),
    )

    -- the radix and the run name came as r and as name
    pub given : legal run ≡ true → (r : ℕ) (name key left : List ℕ) → r ≡ radix → name ≡ run → key ≡ derived_key main (sequence_list s r len (length old) name)
        → left ≡ stream (first_half key) (start_of key) (length old)
        → (Ok tt ≡ sequence_verdict radix len run (length old)) × (left ≡ indices_left main s radix len run old)
    unfolding index_sequence
    given l r name key left er en ek el = (
      sym (verdict_of_name ∙ cond-true (legal run) _ _ l),
      el ∙ ap (λ k. stream (first_half k) (start_of k) (length old))
          (ek ∙ ap (λ x. derived_key main (sequence_list s x len (length old) name)) er ∙ ap (λ x. derived_key main (sequence_list s radix len (length old) x)) en)
          ∙ sym (cond-true (sized radix len (length old) && legal run) _ _ (and_from (sized radix len (length old)) (legal run) h l)),
    )
