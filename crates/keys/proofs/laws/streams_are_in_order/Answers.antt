use Rattle.keys.proofs.Streams.{in_order}
use Rattle.keys.proofs.laws.streams_are_in_order.Goals as goal

pub returns : goal.returns
returns c = in_order
