-- The first line feed of a text. Assumes nothing.
use Rattle.std.proofs.Common.{◌≡◌, ℕ, ◌+◌, ◌<◌, ◌≤◌, Bool, true, false, eqb, List, [], ◌∷◌, ◌++◌, length, get_or, take, Some, None, sym, ap, ◌∙◌, ⊎_elim, arith}
use Rattle.std.specs.List.{position_or_len}
use Rattle.std.proofs.ByRecursion.{All-from_get_or}
use Rattle.std.proofs.lemmas.List.{take_more, length-take, get_or-take}
use Rattle.std.proofs.lemmas.List.Quantifiers.{position-Some}
use Rattle.std.proofs.lemmas.List.Sums.{fails_before_first}
use Rattle.std.proofs.lemmas.Bool.{eq-eqb, eqb-true, cond-true, cases_lt, lt-ltb, both_ways}
use Rattle.printing.specs.Replies.{line_feed}
use Rattle.lines.specs.Blocks.{feed_in, Feedless}

abbrev is_feed : ℕ → Bool
is_feed b = eqb b line_feed

-- a byte that fails the test is no line feed
no_feed : (b : ℕ) → is_feed b ≡ false → b ≡ line_feed → ⊥
no_feed b e is = both_ways (is_feed b) e (eq-eqb b line_feed is)

nowhere : (text : List ℕ) → None ≡ feed_in text → length text ≤ position_or_len is_feed text
nowhere text e =
    ⊎_elim
    (λ (h : position_or_len is_feed text < length text).
    let found = e ∙ cond-true _ (Some (position_or_len is_feed text)) None (lt-ltb (position_or_len is_feed text) (length text) h) in
    let z : ◌≡◌ {A = ℕ} 0 1 = cc in
    absurd (omega arith))
    (λ (h : length text ≤ position_or_len is_feed text). h)
    (cases_lt (position_or_len is_feed text) (length text))

pub none_left : (text : List ℕ) → None ≡ feed_in text → Feedless text
none_left text e =
    All-from_get_or (λ b. b ≡ line_feed → ⊥) text 0 (λ i h. no_feed (get_or text i 0) (fails_before_first is_feed text i 0 (omega (arith, nowhere text e))))

module _ (text : List ℕ) (n : ℕ) (found : Some n ≡ feed_in text) where
  abbrev here : (n < length text) × (is_feed (get_or text n 0) ≡ true) × ((k : ℕ) → k < n → is_feed (get_or text k 0) ≡ false)
  here = position-Some is_feed text n 0 (sym found)

  pub within : n < length text
  within = here.0

  pub line_feedless : Feedless (take n text)
  line_feedless =
      All-from_get_or (λ b. b ≡ line_feed → ⊥) (take n text) 0 (λ i h.
      let k : i < n = omega (arith, length-take n text) in
      no_feed (get_or (take n text) i 0) (ap is_feed (get_or-take n text i 0 k) ∙ here.2 i k))

  pub line_end : take (n + 1) text ≡ take n text ++ (line_feed ∷ [])
  line_end = take_more text n 0 within ∙ ap (λ b. take n text ++ (b ∷ [])) (eqb-true (get_or text n 0) line_feed here.1)
