-- What the exported calls of codebooks give. Assumes nothing.
--   BookPlan      a codebook, and the form of its codes
--   book_plan_of  the plan of a codebook that was made, or why none was
--   book_planned  the plan for coins as bytes and a shape's text
--   nonzero_book  what the walk to codes that do not begin with 0 means, over a codebook
--   book_toward   a code swapped by a plan, if there is one, under one run after the other, one way or the other
--   by_book       the same, by the flag of the way as it crosses
use Rattle.std.specs.Prelude.{ℕ, Bool, List, Ok, Err, Result}
use Rattle.faults.specs.declared.fault.Fault.{Fault}
use Rattle.formats.specs.Forms.{Form}
use Rattle.formats.specs.Shapes.{form}
use Rattle.formats.specs.ShapeTexts.{read_form}
use Rattle.coins.specs.Coins.{bits_of}
use Rattle.ciphers.specs.Meanings.{Meaning}
use Rattle.ciphers.specs.declared.way.Way.{Way}
use Rattle.codebook.specs.declared.book.Codebook.{Codebook}
use Rattle.codebook.specs.Books.{Book, making_book, meaning_of}
use Rattle.codebook.specs.Codebooks.{book}
use Rattle.rules.specs.Rules.{leads_nonzero}
use Rattle.walk.specs.Walks.{walking}
use Rattle.network_c.specs.declared.ffi.Run.{Run}
use Rattle.network_c.specs.declared.ready.Ready.{Ready}
use Rattle.network_c.specs.Under.{Ended, toward, way_of, under}

pub record BookPlan : Type 0 where
  pub book : Book
  pub codes : Form

abbrev pub book_plan_of : Result (Ready Codebook) Fault → Result BookPlan Fault
book_plan_of (Ok r) = Ok (record { book = book r.cipher; codes = form r.shape })
book_plan_of (Err fault) = Err fault

abbrev pub with_book : Form → Result Book Fault → Result BookPlan Fault
with_book f (Ok b) = Ok (record { book = b; codes = f })
with_book f (Err fault) = Err fault

abbrev pub book_for : List ℕ → Result Form Fault → Result BookPlan Fault
book_for coins (Ok f) = with_book f (making_book f (bits_of coins)).answer
book_for coins (Err fault) = Err fault

abbrev pub book_planned : List ℕ → List ℕ → Result BookPlan Fault
book_planned coins text = book_for coins (read_form text)

abbrev pub nonzero_book : Book → Meaning
nonzero_book b = walking (meaning_of b) leads_nonzero

abbrev pub book_toward : (Book → Meaning) → Way → Result BookPlan Fault → List Run → List ℕ → Ended
book_toward means to (Ok p) runs c = under (toward to (means p.book) p.codes) runs c
book_toward means to (Err fault) runs c = record { code = c; answer = Err fault }

abbrev pub by_book : (Book → Meaning) → Bool → Result BookPlan Fault → List Run → List ℕ → Ended
by_book means back = book_toward means (way_of back)
