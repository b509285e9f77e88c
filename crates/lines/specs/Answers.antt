-- A line that is answered: the bytes printed, and the lanes of the coder then. Assumes nothing.
--   gives         what a coder gives for a call, whatever its lanes hold
--   lanes_past    its lanes after some calls
--   AnsweredBy    a command is answered, or a line that spells none, by what the cipher means and the lanes
--   Answered      the same of a coder
--   AnsweredLine  a line is answered
--   asked         the command of a swap
use Rattle.std.specs.Prelude.{◌≡◌, ℕ, ◌≤◌, List, [], ◌∷◌, length, Option}
use Rattle.ciphers.specs.declared.way.Way.{Way}
use Rattle.ciphers.specs.declared.way.Way.TheVariants.{Forward, Backward}
use Rattle.ciphers.specs.Meanings.{Meaning}
use Rattle.coder.specs.declared.coder.Coder.{Coder}
use Rattle.coder.specs.Calls.{Call, Reply, said}
use Rattle.coder.specs.Handed.{Through}
use Rattle.coder.specs.Lists.{past}
use Rattle.coder.specs.Machine.{Held}
use Rattle.coder.specs.Steps.{stepped}
use Rattle.commands.specs.Commands.{Spelled, mask, unmask, spelled}
use Rattle.printing.specs.declared.printed.Printed.{Printed}
use Rattle.lines.specs.LineReplies.{calls_in, printed_in, machine}

abbrev pub gives : Meaning → List (Option Held) → Call → Reply
gives m lanes c = said c (stepped m lanes c).outcome

abbrev pub lanes_past : Meaning → List (Option Held) → List Call → List (Option Held)
lanes_past m lanes [] = lanes
lanes_past m lanes (c ∷ cs) = lanes_past m (stepped m lanes c).lanes cs

pub record AnsweredBy (m : Meaning) (before after : List (Option Held)) (command : Option Spelled) (p : Printed) : Type 0 where
  -- whatever the lanes hold: the bytes printed, and the lanes then
  pub printed : p ≡ printed_in (gives m before) command
  pub lanes : after ≡ lanes_past m before (calls_in command)
  -- no line is longer than a line to print has room for
  pub short : length p ≤ 48
  -- a coder that was handed on through the calls of h prints what the reference machine has for the command, and is
  -- handed on through the call that it asks for
  pub follows : (h : List Call) → Through m before h → Through m after (past (calls_in command) h) × (p ≡ printed_in (machine m h) command)

pub record Answered {T : Type 0} (meaning : T → Meaning) (before after : Coder T) (command : Option Spelled) (p : Printed) : Type 0 where
  pub answered : AnsweredBy (meaning before.cipher) before.lanes after.lanes command p
  -- the cipher means what it meant
  pub same : meaning after.cipher ≡ meaning before.cipher

abbrev pub AnsweredLine : {T : Type 0} → (T → Meaning) → Coder T → Coder T → List ℕ → Printed → Type 0
AnsweredLine meaning before after line p = Answered meaning before after (spelled line) p

-- a mask or an unmask, by its way
abbrev pub asked : Way → ℕ → List ℕ → Spelled
asked Forward = mask
asked Backward = unmask
