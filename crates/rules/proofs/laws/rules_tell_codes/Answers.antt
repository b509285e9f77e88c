use Rattle.rules.specs.Told.{lead_told, luhn_told, examples}
use Rattle.rules.proofs.laws.rules_tell_codes.Goals as goal

pub returns : goal.returns
returns c = record { lead = lead_told; luhn = luhn_told; examples = examples }
