-- Some forms of rests, and a code. Assumes nothing.
use Rattle.std.proofs.Common.{ℕ, List, ◌∷◌, refl, ap}
use Rattle.formats.specs.LeastRounds.{least, tabled, column_below, column_above}
use Rattle.ciphers.specs.Meanings.{Meaning}
use Rattle.layers.specs.Keeps.{shorter}
use Rattle.layers.specs.LayerLaws.{Examples}

pub examples : (m : Meaning) (run : List ℕ) → Examples m run
unfolding shorter least tabled column_below column_above
examples m run = record { more = refl; as_many = refl; none = refl; by_one = λ e. ap (λ y. 4 ∷ y) e }
