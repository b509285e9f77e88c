-- What a line after the first one spells, by its words. Assumes nothing.
--   Spelled     a command: S with lane, run and shape, E with a lane, M and U with lane and code, R
--   command_of  the command of some words
--   read_words  the same, where no word is empty
--   spelled     the command of a line, or none where the line is unreadable
--   as_spelled  a command of the code as plain data
use Rattle.std.specs.Prelude.{ℕ, cond, List, [], ◌∷◌, length, Some, None, codes, Option, nat_le}
use Rattle.std.specs.Option.{option_map}
use Rattle.text.specs.Words.{words_of}
use Rattle.commands.specs.declared.command.Command.{Command}
use Rattle.commands.specs.declared.command.Command.TheVariants.{Start, End, Mask, Unmask, Restart}
use Rattle.commands.specs.Words.{all_filled, is, lane_of}

pub data Spelled : Type 0 where
  start : ℕ → List ℕ → List ℕ → Spelled
  end : ℕ → Spelled
  mask : ℕ → List ℕ → Spelled
  unmask : ℕ → List ℕ → Spelled
  restart : Spelled

abbrev pub command_of : List (List ℕ) → Option Spelled
command_of [] = None
command_of (c ∷ []) = cond (is (codes "R") c) (Some restart) None
command_of (c ∷ lane ∷ []) = cond (is (codes "E") c) (option_map end (lane_of lane)) None
command_of (c ∷ lane ∷ code ∷ []) =
    cond (is (codes "M") c) (option_map (λ k. mask k code) (lane_of lane))
    (cond (is (codes "U") c) (option_map (λ k. unmask k code) (lane_of lane)) None)
command_of (c ∷ lane ∷ run ∷ shape ∷ []) = cond (is (codes "S") c) (option_map (λ k. start k run shape) (lane_of lane)) None
command_of (c ∷ lane ∷ run ∷ shape ∷ more ∷ words) = None

unfoldable pub read_words : List (List ℕ) → Option Spelled
read_words words = cond (all_filled words) (command_of words) None

-- a line has at most 4,096 bytes
unfoldable pub spelled : List ℕ → Option Spelled
spelled line = cond (nat_le (length line) 4096) (read_words (words_of line)) None

abbrev pub as_spelled : Command → Spelled
as_spelled (Start lane run shape) = start lane run.now shape.now
as_spelled (End lane) = end lane
as_spelled (Mask lane code) = mask lane code.now
as_spelled (Unmask lane code) = unmask lane code.now
as_spelled Restart = restart
