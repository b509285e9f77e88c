use Rattle.std.proofs.Common.{◌≡◌, length}
use Rattle.coins.specs.Boxes.{below_once, permutes}
use Rattle.coins.proofs.sbox.given.is_permutation.Given as goal

abbrev pub invariant-loop-first : goal.invariant-loop-first
invariant-loop-first l = below_once (length l.table) l.rest ≡ permutes l.table

abbrev pub decreases-loop-first : goal.decreases-loop-first
decreases-loop-first l = length l.rest
