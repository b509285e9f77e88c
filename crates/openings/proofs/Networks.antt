-- The network over the key's own pool. Assumes nothing.
use Rattle.std.proofs.Common.{◌≡◌, ℕ, List, Ok, Err, ap, ◌∙◌}
use Rattle.alphabets.specs.declared.alphabet.Alphabet.{Alphabet}
use Rattle.alphabets.specs.Alphabets.{radix_of}
use Rattle.faults.specs.declared.fault.Fault.{Fault}
use Rattle.keys.specs.KeyBits.{key_bits}
use Rattle.keys.specs.declared.label.Sequence.TheVariants.{KeyPool}
use Rattle.pools.specs.declared.pool.Origin.{Origin}
use Rattle.pools.specs.declared.pool.Origin.TheVariants.{Key}
use Rattle.pools.specs.Shuffled.{pooling}
use Rattle.ciphers.specs.Networks.{Network, sequence_of}
use Rattle.openings.specs.OpenedNetworks.{opened, with_boxes, opened_network}

-- the pool's key and radix are those that the line names
module _ (a : Alphabet) (key made : List ℕ) (radix : ℕ) (same : made ≡ key) (of : radix ≡ radix_of a) where
  asked : (pooling radix (key_bits made radix)).answer ≡ (pooling (radix_of a) (key_bits key (radix_of a))).answer
  asked = ap (λ k. (pooling radix (key_bits k radix)).answer) same ∙ ap (λ n. (pooling n (key_bits key n)).answer) of

  pub refused : (fault : Fault) → Err fault ≡ (pooling radix (key_bits made radix)).answer → Err fault ≡ opened_network a key
  unfolding opened_network
  refused fault e = ap (with_boxes a key) (e ∙ asked)

  pub opens : (net : Network) (origin : Origin) (n : ℕ) (rows inverse : List (List ℕ))
      → net ≡ record { key = key; sequence = sequence_of origin; radix = n; boxes = rows; inverses = inverse }
      → origin ≡ Key → n ≡ radix → Ok rows ≡ (pooling radix (key_bits made radix)).answer
      → Ok (opened net) ≡ opened_network a key
  unfolding opened_network
  opens net origin n rows inverse holds from has e =
      ap (λ x. Ok (opened x)) holds
      ∙ ap (λ o. Ok (record { key = key; sequence = sequence_of o; radix = n; boxes = rows })) from
      ∙ ap (λ m. Ok (record { key = key; sequence = KeyPool; radix = m; boxes = rows })) (has ∙ of)
      ∙ ap (with_boxes a key) (e ∙ asked)
