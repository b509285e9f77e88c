-- A block of text, answered line by line. Assumes nothing.
--   feed_in        the place of the first line feed
--   Feedless       a text without a line feed
--   ended          lines, each with the line feed that ends it
--   heard          the calls of h, and then those that lines spell; the latest first
--   printed_lines  what the reference machine has printed for lines, after the calls of h
--   lanes_after    the lanes of any coder after lines
--   lines_by       what any coder has printed for lines, by the lanes that it holds
--   BlockBy        a block is answered, by what the cipher means and the lanes
--   AnsweredBlock  the same of a coder
use Rattle.std.specs.Prelude.{◌≡◌, ℕ, ◌<◌, ◌≤◌, List, [], ◌∷◌, ◌++◌, length, take, drop, Option, position, ◌==◌, ◌≢◌}
use Rattle.std.specs.List.{AllByRecursion}
use Rattle.ciphers.specs.Meanings.{Meaning}
use Rattle.coder.specs.declared.coder.Coder.{Coder}
use Rattle.coder.specs.Calls.{Call}
use Rattle.coder.specs.Handed.{Through}
use Rattle.coder.specs.Lists.{past}
use Rattle.coder.specs.Machine.{Held}
use Rattle.printing.specs.declared.printed.Printed.{Printed}
use Rattle.printing.specs.Replies.{line_feed}
use Rattle.lines.specs.LineReplies.{calls_of, printed_by, printed_for}
use Rattle.lines.specs.Answers.{gives, lanes_past}

abbrev pub feed_in : List ℕ → Option ℕ
feed_in text = position (λ b. b == line_feed) text

abbrev pub Feedless : List ℕ → Type 0
Feedless = AllByRecursion (λ b. b ≢ line_feed)

abbrev pub ended : List (List ℕ) → List ℕ
ended [] = []
ended (line ∷ lines) = line ++ (line_feed ∷ ended lines)

abbrev pub heard : List Call → List (List ℕ) → List Call
heard h [] = h
heard h (line ∷ lines) = heard (past (calls_of line) h) lines

abbrev pub printed_lines : Meaning → List Call → List (List ℕ) → List (List ℕ)
printed_lines m h [] = []
printed_lines m h (line ∷ lines) = printed_for m h line ∷ printed_lines m (past (calls_of line) h) lines

abbrev pub lanes_after : Meaning → List (Option Held) → List (List ℕ) → List (Option Held)
lanes_after m lanes [] = lanes
lanes_after m lanes (line ∷ lines) = lanes_after m (lanes_past m lanes (calls_of line)) lines

abbrev pub lines_by : Meaning → List (Option Held) → List (List ℕ) → List (List ℕ)
lines_by m lanes [] = []
lines_by m lanes (line ∷ lines) = printed_by (gives m lanes) line ∷ lines_by m (lanes_past m lanes (calls_of line)) lines

-- `used` bytes of the block are `count` lines
pub record BlockBy (m : Meaning) (before after : List (Option Held)) (block : List ℕ) (used count : ℕ) (slots filled : List Printed) : Type 0 where
  pub lines : List (List ℕ)
  -- the lines, with their line feeds, are the front of the block
  pub split : take used block ≡ ended lines
  pub inside : used ≤ length block
  pub feedless : AllByRecursion Feedless lines
  pub counted : length lines ≡ count
  -- a line is left only for want of a slot
  pub left : count < length slots → Feedless (drop used block)
  -- the slots after those of the lines are as they were
  pub kept : drop count filled ≡ drop count slots
  -- whatever the lanes hold: the bytes printed, and the lanes then
  pub printed : take count filled ≡ lines_by m before lines
  pub lanes : after ≡ lanes_after m before lines
  pub short : AllByRecursion (λ p. length p ≤ 48) (take count filled)
  -- a coder that was handed on through the calls of h prints what the reference machine has for the lines, and is
  -- handed on through the calls that they spell
  pub follows : (h : List Call) → Through m before h → Through m after (heard h lines) × (take count filled ≡ printed_lines m h lines)

pub record AnsweredBlock {T : Type 0} (meaning : T → Meaning) (before after : Coder T) (block : List ℕ) (used count : ℕ) (slots filled : List Printed) : Type 0 where
  pub answered : BlockBy (meaning before.cipher) before.lanes after.lanes block used count slots filled
  -- the cipher means what it meant
  pub same : meaning after.cipher ≡ meaning before.cipher
