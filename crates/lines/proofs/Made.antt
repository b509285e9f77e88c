-- A command whose call was made, or that makes none. Assumes nothing.
use Rattle.std.proofs.Common.{◌≡◌, ℕ, ◌≤◌, List, [], ◌∷◌, length, Option, sym, ap, ◌∙◌, subst}
use Rattle.ciphers.specs.Meanings.{Meaning}
use Rattle.coder.specs.Calls.{Call, Reply}
use Rattle.coder.specs.Handed.{Through, Follows}
use Rattle.coder.specs.Lists.{past}
use Rattle.coder.specs.Machine.{Held}
use Rattle.coder.specs.Steps.{stepped}
use Rattle.commands.specs.Commands.{Spelled}
use Rattle.printing.specs.declared.printed.Printed.{Printed}
use Rattle.lines.specs.LineReplies.{calls_in, printed_in, machine}
use Rattle.lines.specs.Answers.{gives, lanes_past, AnsweredBy}

module _ (m : Meaning) (before after : List (Option Held)) (w : Option Spelled) (p : Printed) (short : length p ≤ 48) where
  -- `line` is what is printed for a reply
  pub made : (c : Call) (line : Reply → List ℕ) (x : Reply) → calls_in w ≡ c ∷ []
      → ((say : Call → Reply) → line (say c) ≡ printed_in say w)
      → line x ≡ line (gives m before c) → after ≡ (stepped m before c).lanes → Follows m before after c x
      → p ≡ line x → AnsweredBy m before after w p
  made c line x calls law is lanes follows holds = record {
    printed = holds ∙ is ∙ law (gives m before);
    lanes = lanes ∙ ap (lanes_past m before) (sym calls);
    short = short;
    follows = λ h through.
        let f = follows h through in
        (subst (λ cs. Through m after (past cs h)) (sym calls) f.0, holds ∙ ap line f.1 ∙ law (machine m h));
  }

  pub unmade : (line : List ℕ) → calls_in w ≡ [] → ((say : Call → Reply) → line ≡ printed_in say w) → after ≡ before
      → p ≡ line → AnsweredBy m before after w p
  unmade line calls law lanes holds = record {
    printed = holds ∙ law (gives m before);
    lanes = lanes ∙ ap (lanes_past m before) (sym calls);
    short = short;
    follows = λ h through.
        (subst (λ cs. Through m after (past cs h)) (sym calls) (subst (λ ls. Through m ls h) (sym lanes) through), holds ∙ law (machine m h));
  }
