use Rattle.std.proofs.Common.{◌≡◌, min, ap, ◌∙◌}
use Rattle.keys.specs.Distances.{w_of, w'_of}
use Rattle.keys.proofs.Roots.{w_is, w'_is}
use Rattle.keys.proofs.distances.Distances.of.Goals as goal

pub returns : goal.returns
returns c =
    let len = c.args.len in
    let root = c.isqrt.ensures in
    let lesser = c.min-w.ensures ∙ ap (min c.isqrt.result) c.saturating_sub.ensures in
    let w : c.min-w.result ≡ w_of len = w_is len _ _ root.square_le root.next_square_gt lesser in
    let v : c.max-w_prime.result ≡ w'_of len = w'_is len _ _ root.square_le root.next_square_gt lesser _ _ c.saturating_sub-2.ensures c.max-w_prime.ensures in
    cc
