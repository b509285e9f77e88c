use Rattle.piles.proofs.Piled.{nonzero_over_kept_laws, kept_over_first_laws, nonzero_over_luhn_laws}
use Rattle.piles.proofs.laws.piles_undo_themselves.Goals as goal

pub returns : goal.returns
returns c = record { nonzero_over_kept = nonzero_over_kept_laws; kept_over_first = kept_over_first_laws; nonzero_over_luhn = nonzero_over_luhn_laws }
