-- What is printed for lines, by the replies to their calls. Assumes nothing.
use Rattle.std.proofs.Common.{◌≡◌, ℕ, List, [], ◌∷◌, ◌++◌, Some, None, Ok, Err, Option, Result, sym, refl, ap, ◌∙◌}
use Rattle.faults.specs.declared.fault.Fault.{Fault}
use Rattle.formats.specs.Forms.{Form}
use Rattle.formats.specs.ShapeTexts.{read_form}
use Rattle.ciphers.specs.Meanings.{Meaning}
use Rattle.coder.specs.Calls.{Call}
use Rattle.coder.specs.Lists.{past, told}
use Rattle.commands.specs.Commands.{Spelled, start, end, mask, unmask, restart, spelled}
use Rattle.lines.specs.LineReplies.{start_calls, calls_in, calls_of, start_line, printed_in, printed_by, machine}
use Rattle.lines.specs.Blocks.{heard, printed_lines}
use Rattle.lines.specs.Spoken.{spelled_calls, next_reply, later_replies, reply_lines, Spoken}

module _ (m : Meaning) (h cs : List Call) where
  start_next : (k : ℕ) (run : List ℕ) (r : Result Form Fault) → start_line (machine m h) k run r ≡ start_line (λ _. next_reply (told m h (start_calls k run r ++ cs))) k run r
  start_next k run (Ok f) = refl
  start_next k run (Err fault) = refl

  start_later : (k : ℕ) (run : List ℕ) (r : Result Form Fault) → later_replies (start_calls k run r) (told m h (start_calls k run r ++ cs)) ≡ told m (past (start_calls k run r) h) cs
  start_later k run (Ok f) = refl
  start_later k run (Err fault) = refl

  next : (w : Option Spelled) → printed_in (machine m h) w ≡ printed_in (λ _. next_reply (told m h (calls_in w ++ cs))) w
  next None = refl
  next (Some (start k run shape)) = start_next k run (read_form shape)
  next (Some (end k)) = refl
  next (Some (mask k code)) = refl
  next (Some (unmask k code)) = refl
  next (Some restart) = refl

  later : (w : Option Spelled) → later_replies (calls_in w) (told m h (calls_in w ++ cs)) ≡ told m (past (calls_in w) h) cs
  later None = refl
  later (Some (start k run shape)) = start_later k run (read_form shape)
  later (Some (end k)) = refl
  later (Some (mask k code)) = refl
  later (Some (unmask k code)) = refl
  later (Some restart) = refl

by_replies : (m : Meaning) (h : List Call) (lines : List (List ℕ)) → printed_lines m h lines ≡ reply_lines lines (told m h (spelled_calls lines))
by_replies m h [] = refl
by_replies m h (line ∷ lines) =
    let cs = spelled_calls lines in
    let rs = told m h (calls_of line ++ cs) in
    ap (λ t. t ∷ printed_lines m (past (calls_of line) h) lines) (next m h cs (spelled line))
    ∙ ap (λ ts. printed_by (λ _. next_reply rs) line ∷ ts) (by_replies m (past (calls_of line) h) lines ∙ ap (reply_lines lines) (sym (later m h cs (spelled line))))

past_both : (cs ds h : List Call) → past (cs ++ ds) h ≡ past ds (past cs h)
past_both [] ds h = refl
past_both (c ∷ cs) ds h = past_both cs ds (c ∷ h)

by_calls : (h : List Call) (lines : List (List ℕ)) → heard h lines ≡ past (spelled_calls lines) h
by_calls h [] = refl
by_calls h (line ∷ lines) = by_calls (past (calls_of line) h) lines ∙ sym (past_both (calls_of line) (spelled_calls lines) h)

pub spoken : Spoken
spoken = record { lines = by_replies; calls = by_calls }
