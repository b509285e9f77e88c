use Rattle.std.proofs.Common.{◌≡◌, ◌+◌, ◌*◌, ◌%◌, ◌≤◌, ◌==◌, drop}
use Rattle.rules.specs.Rules.{weighted_sum, luhn_sum}
use Rattle.rules.proofs.luhn.weighted_sum.Given as goal

abbrev pub invariant-loop-place : goal.invariant-loop-place
invariant-loop-place l =
    (l.sum + weighted_sum (l.place % 2 == 0) (drop l.place l.code) ≡ luhn_sum l.code) × (l.sum ≤ 510 * l.place)
