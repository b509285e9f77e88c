-- Labels: the numbers of the labels, and the label of each kind of index sequence. Assumes nothing.
--   number_of  a label's number
--   label_of   the label of a sequence's derived key
use Rattle.std.specs.Prelude.{ℕ}
use Rattle.keys.specs.declared.label.Label.{Label}
use Rattle.keys.specs.declared.label.Label.TheVariants.{Tokenization, FpeSeq, FpePool}
use Rattle.keys.specs.declared.label.Sequence.{Sequence}
use Rattle.keys.specs.declared.label.Sequence.TheVariants.{GivenPool, KeyPool}

abbrev pub number_of : Label → ℕ
number_of Tokenization = 1
number_of FpeSeq = 2
number_of FpePool = 3

abbrev pub label_of : Sequence → Label
label_of GivenPool = Tokenization
label_of KeyPool = FpeSeq
