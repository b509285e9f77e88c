use Rattle.std.proofs.Common.{leb, ◌∷◌, length, None, refl, ap, ◌∙◌}
use Rattle.std.proofs.lemmas.Bool.{cond-true, le-leb}
use Rattle.text.specs.Hex.{digit_of, byte_of, bytes_of, block_of}
use Rattle.text.specs.Words.{joined, first_word, later_words, words_of}
use Rattle.text.proofs.Splits.{splits}
use Rattle.commands.specs.Commands.{read_words, spelled}
use Rattle.commands.specs.Openings.{read_opening, opening}
use Rattle.commands.specs.Laws.{ByWords, Readable, Unreadable}
use Rattle.commands.proofs.laws.lines_are_read_by_words.Goals as goal

by_words : ByWords
unfolding spelled opening
by_words = record {
  later = λ w ws each fits.
      let line = joined (w ∷ ws) in
      cond-true (leb (length line) 4096) (read_words (words_of line)) None (le-leb (length line) 4096 fits) ∙ ap read_words (splits.only w ws each);
  first = λ w ws each fits.
      let line = joined (w ∷ ws) in
      cond-true (leb (length line) 4096) (read_opening (words_of line)) None (le-leb (length line) 4096 fits) ∙ ap read_opening (splits.only w ws each);
}

readable : Readable
unfolding spelled opening read_words read_opening words_of first_word later_words digit_of byte_of bytes_of block_of
readable = record { starts = refl; ends = refl; masks = refl; unmasks = refl; restarts = refl; lane_nine = refl; book = refl; key = refl }

unreadable : Unreadable
unfolding spelled opening read_words read_opening words_of first_word later_words digit_of byte_of bytes_of block_of
unreadable = record {
  nothing = refl;
  small_letter = refl;
  space_first = refl;
  two_spaces = refl;
  space_last = refl;
  lane_ten = refl;
  too_few = refl;
  too_many = refl;
  book_later = refl;
  mask_first = refl;
  no_coins = refl;
  odd_digits = refl;
  small_digits = refl;
  short_key = refl;
  unknown_alphabet = refl;
}

pub returns : goal.returns
returns c = record { words = by_words; readable = readable; unreadable = unreadable }
