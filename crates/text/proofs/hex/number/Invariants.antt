use Rattle.std.proofs.Common.{◌≡◌, ◌^◌, ◌<◌, drop, Some}
use Rattle.text.specs.Hex.{number_from}
use Rattle.text.proofs.hex.number.Given as goal

abbrev pub invariant-loop-b : goal.invariant-loop-b
invariant-loop-b l =
    (number_from l.letters (Some l.n) (drop l.b-index l.text) ≡ number_from l.letters (Some 0) l.text) × (l.n < 16 ^ l.b-index)
