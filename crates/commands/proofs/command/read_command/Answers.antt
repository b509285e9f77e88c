use Rattle.std.proofs.Common.{◌≡◌, ℕ, [], ◌∷◌, ◌∙◌, arith}
use Rattle.text.specs.Readers.{words_left}
use Rattle.commands.specs.Commands.{read_words, spelled}
use Rattle.commands.proofs.Names.{too_long, nameless, oddly_named, named, otherwise_named}
use Rattle.commands.proofs.command.read_command.Goals as goal
use Rattle.commands.proofs.command.read_command.Goals.{In_ok-only_byte}

pub returns-then-line-gt-MOST_BYTES : goal.returns-then-line-gt-MOST_BYTES
returns-then-line-gt-MOST_BYTES c = too_long c.args.line.now c.if-line-gt-MOST_BYTES.true

pub returns-in_err-name : goal.returns-in_err-name
returns-in_err-name c =
    rw c.from_residual.ensures
    (nameless c.args.line.now c.if-line-gt-MOST_BYTES.false (words_left c.new-words.result) c.new-words.ensures c.in_err-name.ensures.value)

pub returns-in_err-only_byte : goal.returns-in_err-only_byte
returns-in_err-only_byte c =
    rw c.from_residual-in_err-only_byte.ensures
    (oddly_named c.args.line.now c.if-line-gt-MOST_BYTES.false (words_left c.new-words.result) c.new-words.ensures c.in_ok-name.name.now c.in_ok-name.ensures.value (words_left c.next_word.new.words) c.next_word.ensures.after c.in_err-only_byte.ensures)

-- the line, from the letter of its command on
chosen : (c : In_ok-only_byte) (n : ℕ) → c.in_ok-only_byte.field-0 ≡ n → read_words ((n ∷ []) ∷ words_left c.next_word.new.words) ≡ spelled c.args.line.now
chosen c n is-n =
    named c.args.line.now c.if-line-gt-MOST_BYTES.false (words_left c.new-words.result) c.new-words.ensures c.in_ok-name.name.now c.in_ok-name.ensures.value (words_left c.next_word.new.words) c.next_word.ensures.after c.in_ok-only_byte.field-0 n c.in_ok-only_byte.ensures is-n

pub returns-in-83 : goal.returns-in-83
returns-in-83 c = c.start.ensures ∙ chosen (goal.at.returns-in-83 c).In_ok-only_byte 83 c.in-83.is

pub returns-in-69 : goal.returns-in-69
returns-in-69 c = c.finish.ensures ∙ chosen (goal.at.returns-in-69 c).In_ok-only_byte 69 c.in-69.is

pub returns-in-77 : goal.returns-in-77
returns-in-77 c = c.mask.ensures ∙ chosen (goal.at.returns-in-77 c).In_ok-only_byte 77 c.in-77.is

pub returns-in-85 : goal.returns-in-85
returns-in-85 c = c.unmask.ensures ∙ chosen (goal.at.returns-in-85 c).In_ok-only_byte 85 c.in-85.is

pub returns-in-82 : goal.returns-in-82
returns-in-82 c = c.restart.ensures ∙ chosen (goal.at.returns-in-82 c).In_ok-only_byte 82 c.in-82.is

pub returns-in_default : goal.returns-in_default
returns-in_default c =
    otherwise_named c.args.line.now c.if-line-gt-MOST_BYTES.false (words_left c.new-words.result) c.new-words.ensures c.in_ok-name.name.now c.in_ok-name.ensures.value (words_left c.next_word.new.words) c.next_word.ensures.after c.in_ok-only_byte.field-0 c.in_ok-only_byte.ensures (omega arith) (omega arith) (omega arith) (omega arith) (omega arith)
