use Rattle.std.proofs.Common.{◌≡◌}
use Rattle.formats.specs.Shapes.{form}
use Rattle.ciphers.specs.Ways.{map_of}
use Rattle.walk.specs.Walks.{denied_count}
use Rattle.walk.proofs.Called.{Walking}
use Rattle.walk.specs.Cycles.{swaps_left}
use Rattle.walk.proofs.cycle.CycleWalk.walk_on.Given as goal

-- what is left of the count
abbrev pub decreases-loop-way : goal.decreases-loop-way
decreases-loop-way g l =
    let m = g.T.FormatCipher.meaning l.initial.self.below in
    let allowed = g.R.Rule.allowed l.initial.self.rule in
    let f = form l.shape in
    swaps_left (map_of m l.way f l.run) (allowed f) (denied_count m allowed f) l.code

abbrev pub invariant-loop-way : goal.invariant-loop-way
invariant-loop-way g l =
    let m = g.T.FormatCipher.meaning l.initial.self.below in
    (l.self.rule ≡ l.initial.self.rule) × Walking m (g.T.FormatCipher.meaning l.self.below) (g.R.Rule.allowed l.initial.self.rule) (map_of m l.way) (form l.shape) l.run l.initial.code l.code
