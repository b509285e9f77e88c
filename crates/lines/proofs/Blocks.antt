-- One line more of a block. Assumes nothing.
--   Sofar   the first i lines are answered
use Rattle.std.proofs.Common.{◌≡◌, ℕ, ◌+◌, ◌-◌, ◌<◌, ◌≤◌, List, [], ◌∷◌, ◌++◌, length, take, drop, set, Some, Option, sym, refl, ap, ◌∙◌, subst, arith, lit≤, take-add}
use Rattle.std.specs.List.{AllByRecursion}
use Rattle.std.proofs.ByRecursion.{All-push}
use Rattle.std.proofs.lemmas.List.{append_assoc, length-append, length_push, length-take, take_more_set, drop-set-lt, drop-drop, length-drop, take_rest}
use Rattle.ciphers.specs.Meanings.{Meaning}
use Rattle.coder.specs.Calls.{Call}
use Rattle.coder.specs.Handed.{Through}
use Rattle.coder.specs.Lists.{past}
use Rattle.coder.specs.Machine.{Held}
use Rattle.commands.specs.Commands.{spelled}
use Rattle.printing.specs.declared.printed.Printed.{Printed}
use Rattle.printing.specs.Replies.{line_feed}
use Rattle.lines.specs.LineReplies.{calls_of, printed_by, printed_for}
use Rattle.lines.specs.Answers.{gives, lanes_past, AnsweredBy}
use Rattle.lines.specs.Blocks.{feed_in, Feedless, ended, heard, printed_lines, lanes_after, lines_by, BlockBy}
use Rattle.lines.proofs.Feeds.{within, line_feedless, line_end}

ended_more : (lines : List (List ℕ)) (line : List ℕ) → ended (lines ++ (line ∷ [])) ≡ ended lines ++ (line ++ (line_feed ∷ []))
ended_more [] line = refl
ended_more (l ∷ lines) line =
    ap (λ t. l ++ (line_feed ∷ t)) (ended_more lines line) ∙ sym (append_assoc l (line_feed ∷ ended lines) (line ++ (line_feed ∷ [])))

heard_more : (h : List Call) (lines : List (List ℕ)) (line : List ℕ) → heard h (lines ++ (line ∷ [])) ≡ past (calls_of line) (heard h lines)
heard_more h [] line = refl
heard_more h (l ∷ lines) line = heard_more (past (calls_of l) h) lines line

printed_more : (m : Meaning) (h : List Call) (lines : List (List ℕ)) (line : List ℕ) → printed_lines m h (lines ++ (line ∷ [])) ≡ printed_lines m h lines ++ (printed_for m (heard h lines) line ∷ [])
printed_more m h [] line = refl
printed_more m h (l ∷ lines) line = ap (λ ts. printed_for m h l ∷ ts) (printed_more m (past (calls_of l) h) lines line)

lanes_more : (m : Meaning) (lanes : List (Option Held)) (lines : List (List ℕ)) (line : List ℕ) → lanes_after m lanes (lines ++ (line ∷ [])) ≡ lanes_past m (lanes_after m lanes lines) (calls_of line)
lanes_more m lanes [] line = refl
lanes_more m lanes (l ∷ lines) line = lanes_more m (lanes_past m lanes (calls_of l)) lines line

by_more : (m : Meaning) (lanes : List (Option Held)) (lines : List (List ℕ)) (line : List ℕ) → lines_by m lanes (lines ++ (line ∷ [])) ≡ lines_by m lanes lines ++ (printed_by (gives m (lanes_after m lanes lines)) line ∷ [])
by_more m lanes [] line = refl
by_more m lanes (l ∷ lines) line = ap (λ ts. printed_by (gives m lanes) l ∷ ts) (by_more m (lanes_past m lanes (calls_of l)) lines line)

abbrev pub Short : Printed → Type 0
Short p = length p ≤ 48

-- slots as they came, filled as they stand
pub record Sofar (m : Meaning) (before after : List (Option Held)) (block : List ℕ) (used i : ℕ) (slots filled : List Printed) : Type 0 where
  pub lines : List (List ℕ)
  pub split : take used block ≡ ended lines
  pub inside : used ≤ length block
  pub feedless : AllByRecursion Feedless lines
  pub counted : length lines ≡ i
  pub kept : drop i filled ≡ drop i slots
  pub printed : take i filled ≡ lines_by m before lines
  pub lanes : after ≡ lanes_after m before lines
  pub short : AllByRecursion Short (take i filled)
  pub follows : (h : List Call) → Through m before h → Through m after (heard h lines) × (take i filled ≡ printed_lines m h lines)

module _ (m : Meaning) (before now : List (Option Held)) (block : List ℕ) (used i : ℕ) (slots filled : List Printed) (so : Sofar m before now block used i slots filled) where
  -- no line is left, or no slot
  pub ends : (i < length slots → Feedless (drop used block)) → BlockBy m before now block used i slots filled
  ends left = record {
    lines = so.lines;
    split = so.split;
    inside = so.inside;
    feedless = so.feedless;
    counted = so.counted;
    left = left;
    kept = so.kept;
    printed = so.printed;
    lanes = so.lanes;
    short = so.short;
    follows = so.follows;
  }

  pub more : (after : List (Option Held)) (n : ℕ) (p : Printed) → Some n ≡ feed_in (drop used block) → i < length filled
      → AnsweredBy m now after (spelled (take n (drop used block))) p → Sofar m before after block (used + (n + 1)) (i + 1) slots (set filled i p)
  more after n p found slot a =
      let rest = drop used block in
      let line = take n rest in
      let lines = so.lines ++ (line ∷ []) in
      let front : take (i + 1) (set filled i p) ≡ take i filled ++ (p ∷ []) = take_more_set filled i p slot in
      record {
        lines = lines;
        split = take-add used (n + 1) block ∙ ap (λ t. t ++ take (n + 1) rest) so.split ∙ ap (λ t. ended so.lines ++ t) (line_end rest n found) ∙ sym (ended_more so.lines line);
        inside = omega (arith, within rest n found, length-drop used block, so.inside);
        feedless = All-push Feedless so.lines line so.feedless (line_feedless rest n found);
        counted = length_push so.lines line ∙ ap (λ k. k + 1) so.counted;
        kept = drop-set-lt (i + 1) filled i p (omega arith) ∙ sym (drop-drop 1 i filled) ∙ ap (drop 1) so.kept ∙ drop-drop 1 i slots;
        printed =
            front
            ∙ ap (λ ps. ps ++ (p ∷ [])) so.printed
            ∙ ap (λ x. lines_by m before so.lines ++ (x ∷ [])) (a.printed ∙ ap (λ ls. printed_by (gives m ls) line) so.lanes)
            ∙ sym (by_more m before so.lines line);
        lanes = a.lanes ∙ ap (λ ls. lanes_past m ls (calls_of line)) so.lanes ∙ sym (lanes_more m before so.lines line);
        short = subst (AllByRecursion Short) (sym front) (All-push Short (take i filled) p so.short a.short);
        follows = λ h through.
            let x = so.follows h through in
            let y = a.follows (heard h so.lines) x.0 in (
              subst (Through m after) (sym (heard_more h so.lines line)) y.0,
              front
                  ∙ ap (λ ps. ps ++ (p ∷ [])) x.1
                  ∙ ap (λ t. printed_lines m h so.lines ++ (t ∷ [])) y.1
                  ∙ sym (printed_more m h so.lines line),
            );
      }

  -- the same, with the rest of the block and the line as the code has them
  pub one_more : (after : List (Option Held)) (n : ℕ) (p : Printed) (rest line : List ℕ) → rest ≡ drop used block → line ≡ take n rest
      → Some n ≡ feed_in rest → i < length filled → AnsweredBy m now after (spelled line) p → Sofar m before after block (used + (n + 1)) (i + 1) slots (set filled i p)
  one_more after n p rest line is is-line found slot a =
      more after n p (found ∙ ap feed_in is) slot (subst (λ l. AnsweredBy m now after (spelled l) p) (is-line ∙ ap (take n) is) a)

-- what is left of a block after one line more
module _ (block rest : List ℕ) (n : ℕ) (inside : length rest ≤ length block) (is : rest ≡ drop (length block - length rest) block) (line : n < length rest) where
  abbrev left : List ℕ
  left = take (length rest - (n + 1)) (drop (n + 1) rest)

  left_length : length left ≡ length rest - (n + 1)
  left_length = ap length (take_rest rest (n + 1)) ∙ length-drop (n + 1) rest

  pub left_inside : length left ≤ length block
  left_inside = omega (arith, left_length)

  pub left_used : length block - length left ≡ length block - length rest + (n + 1)
  left_used = omega (arith, left_length)

  pub left_is : left ≡ drop (length block - length left) block
  left_is =
      take_rest rest (n + 1)
      ∙ ap (drop (n + 1)) is
      ∙ drop-drop (n + 1) (length block - length rest) block
      ∙ ap (λ u. drop u block) (sym left_used)

-- a line has a line feed at least
ended_long : (lines : List (List ℕ)) → length lines ≤ length (ended lines)
ended_long [] = lit≤ tt
ended_long (l ∷ lines) = omega (arith, ended_long lines, length-append l (line_feed ∷ ended lines))

-- as many bytes are used as there are lines, or more
pub used_by_lines : (m : Meaning) (before after : List (Option Held)) (block : List ℕ) (used count : ℕ) (slots filled : List Printed) →
    BlockBy m before after block used count slots filled → count ≤ used
used_by_lines m before after block used count slots filled a =
    omega (arith, ended_long a.lines, a.counted, ap length a.split, length-take used block)
