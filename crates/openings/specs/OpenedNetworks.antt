-- The network that a first line names, by an alphabet and a key. Assumes nothing.
--   Opened          a network as a first line names it: what a network holds, but for the inverses of its boxes
--   network_in      the network in an answer, as plain data
--   with_boxes      the network of an alphabet and a key, over boxes that were made
--   opened_network  the same over the boxes that the key's own coins make
use Rattle.std.specs.Prelude.{ℕ, List, Ok, Err, Result}
use Rattle.faults.specs.declared.fault.Fault.{Fault}
use Rattle.alphabets.specs.declared.alphabet.Alphabet.{Alphabet}
use Rattle.alphabets.specs.Alphabets.{radix_of}
use Rattle.keys.specs.declared.label.Sequence.{Sequence}
use Rattle.keys.specs.declared.label.Sequence.TheVariants.{KeyPool}
use Rattle.keys.specs.KeyBits.{key_bits}
use Rattle.pools.specs.Shuffled.{pooling}
use Rattle.ciphers.specs.declared.fast.Fast.{Fast}
use Rattle.ciphers.specs.Held.{network_of}
use Rattle.ciphers.specs.Networks.{Network}

-- the inverses follow from the boxes, since in every pool each undoes the other
pub record Opened : Type 0 where
  pub key : List ℕ
  pub sequence : Sequence
  pub radix : ℕ
  pub boxes : List (List ℕ)

abbrev pub opened : Network → Opened
opened net = record { key = net.key; sequence = net.sequence; radix = net.radix; boxes = net.boxes }

abbrev pub network_in : Result Fast Fault → Result Opened Fault
network_in (Ok s) = Ok (opened (network_of s))
network_in (Err fault) = Err fault

abbrev pub with_boxes : Alphabet → List ℕ → Result (List (List ℕ)) Fault → Result Opened Fault
with_boxes a key (Ok boxes) = Ok (record { key = key; sequence = KeyPool; radix = radix_of a; boxes = boxes })
with_boxes a key (Err fault) = Err fault

unfoldable pub opened_network : Alphabet → List ℕ → Result Opened Fault
opened_network a key = with_boxes a key (pooling (radix_of a) (key_bits key (radix_of a))).answer
