use Rattle.keys.specs.Encodings.{encode}
use Rattle.keys.proofs.encoding.writing.encode_pool.Goals as goal

pub returns : goal.returns
unfolding encode
returns c = c.opening.ensures
