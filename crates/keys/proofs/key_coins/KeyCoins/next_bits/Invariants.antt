use Rattle.std.proofs.Common.{◌≡◌, ◌+◌, take, drop}
use Rattle.coins.specs.Coins.{number}
use Rattle.keys.specs.KeyBits.{remaining}
use Rattle.keys.proofs.key_coins.KeyCoins.next_bits.Given as goal

abbrev pub invariant-loop-i : goal.invariant-loop-i
invariant-loop-i l =
    (l.number ≡ number (take l._i (remaining l.initial.self))) × (remaining l.self ≡ drop l._i (remaining l.initial.self))
    × (l.self.taken ≡ l.initial.self.taken + l._i)
