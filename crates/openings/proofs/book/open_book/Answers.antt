use Rattle.std.proofs.Common.{◌≡◌, ℕ, List, Ok, Result, ap, ◌∙◌}
use Rattle.std.proofs.lemmas.Result.{err_from_is_err_and}
use Rattle.faults.specs.declared.fault.Fault.{Fault}
use Rattle.formats.specs.Forms.{Form}
use Rattle.formats.specs.ShapeTexts.{read_form}
use Rattle.coins.specs.Coins.{bits_of}
use Rattle.codebook.specs.Books.{Book, making_book}
use Rattle.openings.specs.OpenedBooks.{book_for, book_from, coins_of, opened_book}
use Rattle.openings.proofs.book.open_book.Goals as goal

made : (shape digits bytes bits : List ℕ) (f : Form) (r : Result Book Fault) → Ok bytes ≡ coins_of digits → Ok f ≡ read_form shape → bits ≡ bits_of bytes
    → r ≡ (making_book f bits).answer → r ≡ opened_book shape digits
unfolding opened_book
made shape digits bytes bits f r coins shaped same e =
    e ∙ ap (λ b. (making_book f b).answer) same ∙ ap (λ o. book_for o bytes) shaped ∙ ap (book_from shape) coins

pub returns-in_err-bytes : goal.returns-in_err-bytes
unfolding opened_book
returns-in_err-bytes c =
    let p = err_from_is_err_and c.from_residual.result c.from_residual.ensures.1 in
    rw (p.1, p.2) (ap (book_from c.args.shape.now) c.in_err-bytes.ensures)

pub returns-in_err-shape : goal.returns-in_err-shape
unfolding opened_book
returns-in_err-shape c =
    let p = err_from_is_err_and c.from_residual-in_err-shape.result c.from_residual-in_err-shape.ensures.1 in
    rw (p.1, p.2) (ap (λ o. book_for o c.in_ok-bytes.bytes.items) c.in_err-shape.ensures ∙ ap (book_from c.args.shape.now) c.in_ok-bytes.ensures)

pub returns-in_err-codebook : goal.returns-in_err-codebook
returns-in_err-codebook c =
    let p = err_from_is_err_and c.from_residual-in_err-codebook.result c.from_residual-in_err-codebook.ensures.1 in
    rw (p.1, p.2) (made c.args.shape.now c.args.digits.now c.in_ok-bytes.bytes.items _ _ _ c.in_ok-bytes.ensures c.in_ok-shape.ensures
    (c.new-coins.ensures ∙ ap bits_of c.as_slice.ensures.value) c.in_err-codebook.ensures.value)

pub returns : goal.returns
returns c =
    rw c.new.ensures.below (made c.args.shape.now c.args.digits.now c.in_ok-bytes.bytes.items _ _ _ c.in_ok-bytes.ensures c.in_ok-shape.ensures
    (c.new-coins.ensures ∙ ap bits_of c.as_slice.ensures.value) c.in_ok-codebook.ensures.value)
