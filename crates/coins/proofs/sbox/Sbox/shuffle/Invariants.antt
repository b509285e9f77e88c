use Rattle.std.proofs.Common.{◌≡◌, ◌-◌}
use Rattle.coins.specs.Boxes.{swaps}
use Rattle.coins.specs.Sboxes.{entries}
use Rattle.coins.proofs.Swaps.{Shuffling}
use Rattle.coins.proofs.sbox.Sbox.shuffle.Given as goal

abbrev pub invariant-loop-i : goal.invariant-loop-i
invariant-loop-i g l = record {
  so_far :
      Shuffling (l.initial.self.radix - 1) (swaps (l.initial.self.radix - 1) (entries l.initial.self) (g.C.Coins.waiting l.initial.coins))
      (g.C.Coins.waiting l.initial.coins) (l.i - 1) (entries l.self) (g.C.Coins.waiting l.coins) l.taken;
  same : l.self.radix ≡ l.initial.self.radix;
}
