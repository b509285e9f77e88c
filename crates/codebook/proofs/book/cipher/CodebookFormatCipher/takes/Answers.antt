use denote.Enum.Bare.{same_true, same_false}
use Rattle.std.proofs.Common.{◌≡◌, false, ◌&&◌, eqb, sym, ap, ◌∙◌}
use Rattle.std.proofs.lemmas.Bool.{eq-eqb, ne_eqb}
use Rattle.alphabets.specs.Alphabets.{letter_of}
use Rattle.alphabets.specs.contracts.alphabet.Alphabet.{the_type}
use Rattle.codebook.specs.Books.{same_alphabet, taken_by}
use Rattle.codebook.specs.Permuted.{same_letter}
use Rattle.codebook.proofs.book.cipher.CodebookFormatCipher.takes.Goals as goal

pub returns-then-eq : goal.returns-then-eq
unfolding taken_by
returns-then-eq c =
    let here = c.args.self.now in
    let there = c.args.shape.now in
    let equal = same_true the_type tt here.alphabet c.alphabet.result (sym c.eq.ensures ∙ c.if-eq.true) in
    let same = eq-eqb _ _ (ap letter_of (equal ∙ c.alphabet.ensures)) in
    ap (eqb here.len) c.len.ensures ∙ ap (λ t. t && eqb here.len there.len) (sym same)

pub returns-else-eq : goal.returns-else-eq
unfolding taken_by
returns-else-eq c =
    let here = c.args.self.now in
    let there = c.args.shape.now in
    let unequal = same_false the_type here.alphabet c.alphabet.result (sym c.eq.ensures ∙ c.if-eq.false) in
    let apart : same_alphabet here.alphabet there.alphabet ≡ false =
    ne_eqb _ _ (λ e. unequal (same_letter here.alphabet there.alphabet e ∙ sym c.alphabet.ensures)) in
    c.if-eq.false ∙ ap (λ t. t && eqb here.len there.len) (sym apart)
