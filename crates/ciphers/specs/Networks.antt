-- FAST as a cipher over formats: what the network means. Assumes nothing.
--   Network      a key, a pool and where the pool came from
--   sequence_of  the index sequences that belong to a pool's origin
--   indices_of   the index sequence of a form and a run
--   networked    what the network means
use Rattle.std.specs.Prelude.{ℕ, ◌&&◌, List, None, ◌==◌, nat_le}
use Rattle.alphabets.specs.Alphabets.{radix_of}
use Rattle.formats.specs.Forms.{Form, layers_of}
use Rattle.keys.specs.declared.label.Sequence.{Sequence}
use Rattle.keys.specs.declared.label.Sequence.TheVariants.{GivenPool, KeyPool}
use Rattle.keys.specs.Distances.{w_of, w'_of}
use Rattle.keys.specs.Sequences.{index_sequence}
use Rattle.pools.specs.declared.pool.Origin.{Origin}
use Rattle.pools.specs.declared.pool.Origin.TheVariants.{Given, Key}
use Rattle.ciphers.specs.Layers.{core_encrypt, core_decrypt}
use Rattle.ciphers.specs.Meanings.{Meaning}

pub record Network : Type 0 where
  pub key : List ℕ
  pub sequence : Sequence
  pub radix : ℕ
  pub boxes : List (List ℕ)
  pub inverses : List (List ℕ)

abbrev pub sequence_of : Origin → Sequence
sequence_of Given = GivenPool
sequence_of Key = KeyPool

unfoldable pub indices_of : Network → Form → List ℕ → List ℕ
indices_of net f run = index_sequence net.key net.sequence net.radix f.len run (layers_of f)

-- it takes the shapes of its pool's radix with at least two symbols, and bars nothing
abbrev pub networked : Network → Meaning
networked net = record {
  taken = λ f. (radix_of f.alphabet == net.radix) && nat_le 2 f.len;
  barred = λ f c. None;
  forward = λ f run c. core_encrypt net.boxes net.radix (w_of f.len) (w'_of f.len) (indices_of net f run) c;
  backward = λ f run c. core_decrypt net.inverses net.radix (w_of f.len) (w'_of f.len) (indices_of net f run) c;
}
