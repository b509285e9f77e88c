use Rattle.std.proofs.Common.{◌∙◌, rules}
use Rattle.commands.proofs.Names.{lane_is}
use Rattle.commands.proofs.words.lane.Goals as goal

pub returns : goal.returns
returns c = c.symbol.ensures ∙ lane_is c.args.word.now c.in_ok-only_byte.field-0 (search rules) c.in_ok-only_byte.ensures
