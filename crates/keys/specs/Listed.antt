-- The list of an index sequence, as the code has it. Assumes nothing.
--   listed  what its key is derived for
use Rattle.keys.specs.declared.encoding.list.SequenceList.{SequenceList}
use Rattle.keys.specs.Encodings.{Purpose}
use Rattle.keys.specs.Sequences.{sequence_list}

abbrev pub listed : SequenceList → Purpose
listed s = sequence_list s.sequence s.radix s.len s.layers s.run.bytes.now
