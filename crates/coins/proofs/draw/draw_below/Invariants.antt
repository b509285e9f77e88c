use Rattle.std.proofs.Common.{length}
use Rattle.coins.proofs.Draws.{Turn}
use Rattle.coins.proofs.draw.draw_below.Given as goal

-- some tries are rejected, and their coins are taken
abbrev pub invariant-loop-v : goal.invariant-loop-v
invariant-loop-v g l = Turn l.bound (g.C.Coins.waiting l.initial.coins) l.count (g.C.Coins.waiting l.coins) l.taken

abbrev pub decreases-loop-v : goal.decreases-loop-v
decreases-loop-v g l = length (g.C.Coins.waiting l.coins)
