-- Where the first line of a block ends. Assumes nothing.
use Rattle.std.proofs.Common.{◌≡◌, ℕ, ◌+◌, ◌-◌, ◌<◌, ◌≤◌, Bool, false, eqb, List, [], ◌∷◌, ◌++◌, length, get_or, take, drop, Some, None, Option, unwrap_or, sym, refl, ap, ◌∙◌, subst, ⊎_elim, arith, add-one, zero, suc, length-drop}
use Rattle.std.specs.Option.{option_map}
use Rattle.std.proofs.lemmas.List.{append-nil, append_assoc, drop_more, drop_all, take_more}
use Rattle.std.specs.List.{position_or_len, position}
use Rattle.std.proofs.lemmas.List.Quantifiers.{position-Some}
use Rattle.std.proofs.lemmas.List.Sums.{fails_before_first}
use Rattle.std.proofs.lemmas.Bool.{cond-true, cond-false, ne_eqb, eq-eqb, eqb-true, cases_lt, lt-ltb, both_ways}
use Rattle.printing.specs.Replies.{line_feed}
use Rattle.sessions.specs.Blocks.{after, cut, head, beyond}

abbrev pub is_feed : ℕ → Bool
is_feed b = eqb b line_feed

-- the first i bytes of a block have no LF
abbrev Passed : List ℕ → ℕ → Type 0
Passed block i = cut block ≡ option_map (after (take i block)) (cut (drop i block))

nothing_before : (o : Option (List ℕ × List ℕ)) → o ≡ option_map (after []) o
nothing_before None = refl
nothing_before (Some p) = refl

joined : (o : Option (List ℕ × List ℕ)) (a b : List ℕ) → option_map (after a) (option_map (after b) o) ≡ option_map (after (a ++ b)) o
joined None a b = refl
joined (Some p) a b = ap (λ t. Some (t, p.1)) (sym (append_assoc a b p.0))

begun : (block : List ℕ) → Passed block 0
begun block = nothing_before (cut block)

module _ (block : List ℕ) (i : ℕ) (inv : Passed block i) where
  further : i < length block → (get_or block i 0 ≡ line_feed → ⊥) → Passed block (i + 1)
  unfolding cut
  further h ne =
      let b : ℕ = get_or block i 0 in
      let rest : List ℕ = drop (i + 1) block in
      inv ∙ ap (λ l. option_map (after (take i block)) (cut l)) (drop_more block i 0 h)
      ∙ ap (option_map (after (take i block))) (cond-false (eqb b line_feed) (Some ([], rest)) (option_map (after (b ∷ [])) (cut rest)) (ne_eqb b line_feed ne))
      ∙ joined (cut rest) (take i block) (b ∷ [])
      ∙ ap (λ t. option_map (after t) (cut rest)) (sym (take_more block i 0 h))

  found : i < length block → get_or block i 0 ≡ line_feed → cut block ≡ Some (take i block, drop (i + 1) block)
  unfolding cut
  found h e =
      let b : ℕ = get_or block i 0 in
      let rest : List ℕ = drop (i + 1) block in
      inv ∙ ap (λ l. option_map (after (take i block)) (cut l)) (drop_more block i 0 h)
      ∙ ap (option_map (after (take i block))) (cond-true (eqb b line_feed) (Some ([], rest)) (option_map (after (b ∷ [])) (cut rest)) (eq-eqb b line_feed e))
      ∙ ap (λ t. Some (t, rest)) (append-nil (take i block))

  missing : length block ≤ i → cut block ≡ None
  unfolding cut
  missing h = inv ∙ ap (λ l. option_map (after (take i block)) (cut l)) (drop_all i block h)

-- the first i bytes are no LF
passed : (block : List ℕ) (i : ℕ) → i ≤ length block → ((k : ℕ) → k < i → is_feed (get_or block k 0) ≡ false) → Passed block i
passed block zero h none = begun block
passed block (suc i) h none =
    let before : Passed block i = passed block i (omega arith) (λ k l. none k (omega arith)) in
    subst (Passed block) (add-one i) (further block i before (omega arith) (λ is. absurd (both_ways (is_feed (get_or block i 0)) (none i (omega arith)) (eq-eqb (get_or block i 0) line_feed is))))

-- where the first line ends
pub ends : (block : List ℕ) (n : ℕ) → Some n ≡ position is_feed block → (n < length block) × (cut block ≡ Some (take n block, drop (n + 1) block))
ends block n e =
    let here = position-Some is_feed block n 0 (sym e) in
    (here.0, found block n (passed block n (omega arith) here.2) here.0 (eqb-true (get_or block n 0) line_feed here.1))

pub none_ends : (block : List ℕ) → None ≡ position is_feed block → cut block ≡ None
none_ends block e =
    let over : length block ≤ position_or_len is_feed block =
    ⊎_elim
    (λ (h : position_or_len is_feed block < length block).
    let some : ◌≡◌ {A = Option ℕ} None (Some (position_or_len is_feed block)) =
    e ∙ cond-true _ (Some (position_or_len is_feed block)) None (lt-ltb (position_or_len is_feed block) (length block) h) in
    absurd (cc))
    (λ (h : length block ≤ position_or_len is_feed block). h)
    (cases_lt (position_or_len is_feed block) (length block)) in
    missing block (length block) (passed block (length block) (omega arith) (λ k l. fails_before_first is_feed block k 0 (omega arith))) (omega arith)

-- a block whose first line ends at n
module _ (block : List ℕ) (n : ℕ) (e : (n < length block) × (cut block ≡ Some (take n block, drop (n + 1) block))) where
  pub headed : take n block ≡ head block
  headed = sym (ap (λ o. unwrap_or (option_map (λ p. p.0) o) block) e.1)

  pub followed : length block - n - 1 ≡ beyond block
  followed =
      let z : length block - n - 1 ≡ length (drop (n + 1) block) = omega (arith, length-drop (n + 1) block) in
      z ∙ sym (ap (λ o. unwrap_or (option_map (λ p. length p.1) o) 0) e.1)

-- a block in which no line ends
module _ (block : List ℕ) (e : cut block ≡ None) where
  pub whole : block ≡ head block
  whole = sym (ap (λ o. unwrap_or (option_map (λ p. p.0) o) block) e)

  pub nothing : 0 ≡ beyond block
  nothing = sym (ap (λ o. unwrap_or (option_map (λ p. length p.1) o) 0) e)
