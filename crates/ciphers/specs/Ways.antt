-- The two ways of a swap. Assumes nothing.
--   map_of  the map of a meaning that goes a way
use Rattle.std.specs.Prelude.{ℕ, List}
use Rattle.formats.specs.Forms.{Form}
use Rattle.ciphers.specs.Meanings.{Meaning}
use Rattle.ciphers.specs.declared.way.Way.{Way}
use Rattle.ciphers.specs.declared.way.Way.TheVariants.{Forward, Backward}

abbrev pub map_of : Meaning → Way → Form → List ℕ → List ℕ → List ℕ
map_of m Forward = m.forward
map_of m Backward = m.backward
