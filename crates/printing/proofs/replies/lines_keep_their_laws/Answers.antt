use Rattle.std.proofs.Common.{refl}
use Rattle.std.specs.Fmt.{digits}
use Rattle.std.proofs.lemmas.Fmt.{decimal_is_IsNumeral, first_decimal}
use Rattle.printing.specs.Laws.{Examples}
use Rattle.printing.specs.Replies.{fault_text, replied}
use Rattle.printing.proofs.replies.lines_keep_their_laws.Goals as goal

written : Examples
unfolding digits fault_text replied
written = record { restarted = refl; started = refl; masked = refl; no_run = refl; barred = refl; unreadable = refl }

pub returns : goal.returns
returns c = record {
  decimal = record { digits = λ n h. (decimal_is_IsNumeral n h).0; reads = λ n h. (decimal_is_IsNumeral n h).1; leads = first_decimal };
  examples = written;
}
