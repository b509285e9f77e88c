use Rattle.std.proofs.Common.{◌∙◌}
use Rattle.text.specs.Readers.{words_left}
use Rattle.commands.proofs.Firsts.{too_long, no_name, no_subject, no_digits, more_words, three_words}
use Rattle.commands.proofs.first.read_first.Goals as goal

pub returns-then-line-gt-MOST_BYTES : goal.returns-then-line-gt-MOST_BYTES
returns-then-line-gt-MOST_BYTES c = too_long c.args.line.now c.if-line-gt-MOST_BYTES.true

pub returns-in_err-name : goal.returns-in_err-name
returns-in_err-name c =
    rw c.from_residual.ensures
    (no_name c.args.line.now c.if-line-gt-MOST_BYTES.false (words_left c.new-words.result) c.new-words.ensures c.in_err-name.ensures.value)

pub returns-in_err-subject : goal.returns-in_err-subject
returns-in_err-subject c =
    rw c.from_residual-in_err-subject.ensures
    (no_subject c.args.line.now c.if-line-gt-MOST_BYTES.false (words_left c.new-words.result) c.new-words.ensures c.in_ok-name.name.now c.in_ok-name.ensures.value (words_left c.next_word.new.words) c.next_word.ensures.after c.in_err-subject.ensures.value)

pub returns-in_err-digits : goal.returns-in_err-digits
returns-in_err-digits c =
    rw c.from_residual-in_err-digits.ensures
    (no_digits c.args.line.now c.if-line-gt-MOST_BYTES.false (words_left c.new-words.result) c.new-words.ensures c.in_ok-name.name.now c.in_ok-name.ensures.value (words_left c.next_word.new.words) c.next_word.ensures.after c.in_ok-subject.subject.now c.in_ok-subject.ensures.value (words_left c.next_word-2.new.words) c.next_word-2.ensures.after c.in_err-digits.ensures.value)

pub returns-in_err-end : goal.returns-in_err-end
returns-in_err-end c =
    rw c.from_residual-in_err-end.ensures
    (more_words c.args.line.now c.if-line-gt-MOST_BYTES.false (words_left c.new-words.result) c.new-words.ensures c.in_ok-name.name.now c.in_ok-name.ensures.value (words_left c.next_word.new.words) c.next_word.ensures.after c.in_ok-subject.subject.now c.in_ok-subject.ensures.value (words_left c.next_word-2.new.words) c.next_word-2.ensures.after c.in_ok-digits.digits.now c.in_ok-digits.ensures.value (words_left c.next_word-3.new.words) c.next_word-3.ensures.after c.in_err-end.ensures)

pub returns : goal.returns
returns c =
    c.choose.ensures
    ∙ three_words c.args.line.now c.if-line-gt-MOST_BYTES.false (words_left c.new-words.result) c.new-words.ensures c.in_ok-name.name.now c.in_ok-name.ensures.value (words_left c.next_word.new.words) c.next_word.ensures.after c.in_ok-subject.subject.now c.in_ok-subject.ensures.value (words_left c.next_word-2.new.words) c.next_word-2.ensures.after c.in_ok-digits.digits.now c.in_ok-digits.ensures.value (words_left c.next_word-3.new.words) c.next_word-3.ensures.after _ c.in_ok-end.ensures
