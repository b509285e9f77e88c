use Rattle.std.proofs.Common.{◌≡◌, ◌-◌, ◌*◌, ◌≤◌, length, take}
use Rattle.coins.specs.Coins.{number, bits_from}
use Rattle.coins.proofs.bytes.number_at.Given as goal

abbrev pub invariant-loop-place : goal.invariant-loop-place
invariant-loop-place l = (l.number ≡ number (take (l.place - l.from) (bits_from l.from l.bytes))) × (l.place ≤ 8 * length l.bytes)
