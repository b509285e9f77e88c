-- The lines that are printed, by the replies to the list of calls that lines spell. Assumes nothing.
--   spelled_calls  the calls that lines spell, in order
--   next_reply     the first of some replies
--   later_replies  the replies that are left after those to some calls
--   reply_lines    what is printed for lines, where the replies to their calls are given in order
--   Spoken         these are the lines that the reference machine has printed
use Rattle.std.specs.Prelude.{◌≡◌, ℕ, List, [], ◌∷◌, ◌++◌}
use Rattle.ciphers.specs.Meanings.{Meaning}
use Rattle.coder.specs.Calls.{Call, Reply}
use Rattle.coder.specs.Lists.{past, told, leaves}
use Rattle.lines.specs.LineReplies.{calls_of, printed_by}
use Rattle.lines.specs.Blocks.{heard, printed_lines}

abbrev pub spelled_calls : List (List ℕ) → List Call
spelled_calls [] = []
spelled_calls (line ∷ lines) = calls_of line ++ spelled_calls lines

-- where there is none, what is asked of it does not matter
abbrev pub next_reply : List Reply → Reply
next_reply [] = leaves []
next_reply (r ∷ rs) = r

abbrev pub later_replies : List Call → List Reply → List Reply
later_replies [] rs = rs
later_replies (c ∷ cs) [] = []
later_replies (c ∷ cs) (r ∷ rs) = later_replies cs rs

-- a line that spells a call takes the next reply, and any other line takes none
abbrev pub reply_lines : List (List ℕ) → List Reply → List (List ℕ)
reply_lines [] rs = []
reply_lines (line ∷ lines) rs = printed_by (λ _. next_reply rs) line ∷ reply_lines lines (later_replies (calls_of line) rs)

pub record Spoken : Type 0 where
  pub lines : (m : Meaning) (h : List Call) (lines : List (List ℕ)) → printed_lines m h lines ≡ reply_lines lines (told m h (spelled_calls lines))
  -- lines hand a coder on through the calls that they spell
  pub calls : (h : List Call) (lines : List (List ℕ)) → heard h lines ≡ past (spelled_calls lines) h
