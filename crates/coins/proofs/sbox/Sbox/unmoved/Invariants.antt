use Rattle.std.proofs.Common.{◌≡◌, ℕ, ◌<◌, length, get_or}
use Rattle.coins.proofs.sbox.Sbox.unmoved.Given as goal

abbrev pub invariant-loop-x : goal.invariant-loop-x
invariant-loop-x l = (length l.forward ≡ 4096) × ((k : ℕ) → k < l.x → get_or l.forward k 0 ≡ k)
