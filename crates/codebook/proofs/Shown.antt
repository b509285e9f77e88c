-- The examples of codebooks, computed. Assumes nothing.
use Rattle.std.proofs.Common.{ℕ, List, refl}
use Rattle.formats.specs.Forms.{Form, code_count}
use Rattle.coins.specs.Boxes.{swaps, making}
use Rattle.coins.specs.Draws.{least_from, log2_up, width, drawing}
use Rattle.codebook.specs.BookLaws.{Examples}
use Rattle.codebook.specs.Books.{making_book, through}
use Rattle.codebook.specs.Numbers.{written}

pub examples : (f : Form) (run : List ℕ) (rounds : ℕ) → Examples f run rounds
unfolding code_count written through making_book making swaps drawing width log2_up least_from
examples f run rounds = record {
  two_digits = refl;
  three_digits = refl;
  four_digits = refl;
  one_hex = refl;
  three_hex = refl;
  two_letters = refl;
  three_letters = refl;
  two_signs = refl;
  three_signs = refl;
  most_signs = refl;
  made_of_coins = refl;
  nine = refl;
  four = refl;
  five = refl;
}
