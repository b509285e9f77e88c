-- Digits read where they stand. Assumes nothing.
use Rattle.std.proofs.Common.{◌≡◌, ℕ, ◌+◌, ◌-◌, ◌*◌, ◌/◌, ◌<◌, ◌≤◌, true, false, List, ◌++◌, length, get_or, take, drop, set, is_some, Some, None, Option, sym, refl, ap, ◌∙◌, inl, inr, arith}
use Rattle.std.specs.Option.{option_map}
use Rattle.std.proofs.lemmas.List.{append-nil, drop-drop, drop-set-lt, get_or-drop, length-take-le, take-append-drop}
use Rattle.std.proofs.lemmas.Bool.{true≢false, cases_eq}
use Rattle.text.specs.declared.hex.Letters.{Letters}
use Rattle.text.specs.Hex.{byte_of, bytes_of, in_place}
use Rattle.text.proofs.Digits.{before, pair_more, no_pair, last_even, last_odd}

-- a text that is no bytes
not_some : (o : Option (List ℕ)) → false ≡ is_some o → None ≡ o
not_some None e = refl
not_some (Some bs) e = absurd (true≢false (sym e))

none_not : (o : Option (List ℕ)) → true ≡ is_some o → None ≡ o → ⊥
none_not o e h = true≢false (e ∙ ap is_some (sym h))

pub refused_value : (o : Option (List ℕ)) → false ≡ is_some o → None ≡ option_map length o
refused_value o e = ap (option_map length) (not_some o e)

pub refused_after : (text : List ℕ) (o : Option (List ℕ)) → false ≡ is_some o → text ≡ in_place text o
unfolding in_place
refused_after text o e = ap (in_place text) (not_some o e)

-- what stands from i on is as it was
module _ (l : Letters) (old text : List ℕ) (i : ℕ) (same : drop i text ≡ drop i old) where
  as_it_was : (k : ℕ) → i ≤ k → get_or text k 0 ≡ get_or old k 0
  as_it_was k h =
      let n : i + (k - i) ≡ k = omega arith in
      ap (λ m. get_or text m 0) (sym n) ∙ sym (get_or-drop i text (k - i) 0) ∙ ap (λ r. get_or r (k - i) 0) same ∙ get_or-drop i old (k - i) 0 ∙ ap (λ m. get_or old m 0) n

  old_pair : (o : Option ℕ) → o ≡ byte_of l (get_or text (2 * i) 0) (get_or text (2 * i + 1) 0) → o ≡ byte_of l (get_or old (2 * i) 0) (get_or old (2 * i + 1) 0)
  old_pair o e = e ∙ ap (λ x. byte_of l x (get_or text (2 * i + 1) 0)) (as_it_was (2 * i) (omega arith)) ∙ ap (byte_of l (get_or old (2 * i) 0)) (as_it_was (2 * i + 1) (omega arith))

  pub still_the_same : (b : ℕ) → drop (i + 1) (set text i b) ≡ drop (i + 1) old
  still_the_same b =
      let h : i < i + 1 = omega arith in
      drop-set-lt (i + 1) text i b h ∙ sym (drop-drop 1 i text) ∙ ap (drop 1) same ∙ drop-drop 1 i old

  module _ (inv : before (take i text) (bytes_of l (drop (2 * i) old)) ≡ bytes_of l old) where
    pub one_byte_more : (b : ℕ) → 2 * i + 1 < length old → i < length text → Some b ≡ byte_of l (get_or text (2 * i) 0) (get_or text (2 * i + 1) 0)
        → before (take (i + 1) (set text i b)) (bytes_of l (drop (2 * (i + 1)) old)) ≡ bytes_of l old
    one_byte_more b h k e = pair_more l old i h text b k (old_pair (Some b) e) inv

    pub never_refused : true ≡ is_some (bytes_of l old) → 2 * i + 1 < length old → None ≡ byte_of l (get_or text (2 * i) 0) (get_or text (2 * i + 1) 0) → ⊥
    never_refused r h e = none_not (bytes_of l old) r (no_pair l old i h text (old_pair None e) inv)

    even : true ≡ is_some (bytes_of l old) → i ≡ length old / 2 → length old ≡ 2 * i
    even r e =
        elim (cases_eq (length old) (2 * i)) [
          | inl h ↦ h
          | inr h ↦ absurd (none_not (bytes_of l old) r (ap (before (take i text)) (sym (last_odd l old i (omega (arith, e, h)))) ∙ inv))
        ]

    all_read : true ≡ is_some (bytes_of l old) → i ≡ length old / 2 → bytes_of l old ≡ Some (take i text)
    all_read r e = sym inv ∙ ap (before (take i text)) (last_even l old i (even r e)) ∙ ap (λ p. Some p) (append-nil (take i text))

    pub read_value : true ≡ is_some (bytes_of l old) → i ≡ length old / 2 → length text ≡ length old → Some i ≡ option_map length (bytes_of l old)
    read_value r e k = sym (ap (option_map length) (all_read r e) ∙ ap (λ n. Some n) (length-take-le i text (omega (arith, e, k))))

    pub read_after : true ≡ is_some (bytes_of l old) → i ≡ length old / 2 → length text ≡ length old → text ≡ in_place old (bytes_of l old)
    unfolding in_place
    read_after r e k =
        let n : length (take i text) ≡ i = length-take-le i text (omega (arith, e, k)) in
        sym (ap (in_place old) (all_read r e) ∙ ap (λ m. take i text ++ drop m old) n ∙ ap (λ p. take i text ++ p) (sym same) ∙ take-append-drop i text)
