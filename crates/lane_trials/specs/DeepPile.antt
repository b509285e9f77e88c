-- A deep pile of layers, as one cipher. Assumes nothing.
--   piled  a walk over a kept prefix over the first of a walked codebook and the network
use Rattle.std.specs.Prelude.{ℕ}
use Rattle.ciphers.specs.Meanings.{Meaning}
use Rattle.ciphers.specs.Networks.{Network, networked}
use Rattle.codebook.specs.Books.{Book, meaning_of}
use Rattle.layers.specs.Firsts.{preferring}
use Rattle.layers.specs.Keeps.{keeping}
use Rattle.rules.specs.Rules.{leads_nonzero, passes_luhn}
use Rattle.walk.specs.Walks.{walking}

abbrev pub piled : ℕ → Book → Network → Meaning
piled kept book net = walking (keeping kept (preferring (walking (meaning_of book) passes_luhn) (networked net))) leads_nonzero
