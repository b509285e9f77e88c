use Rattle.std.proofs.Common.{◌≡◌, map, subst}
use Rattle.ciphers.specs.Held.{network_of}
use Rattle.ciphers.specs.Meanings.{Meaning}
use Rattle.ciphers.specs.Networks.{networked}
use Rattle.codebook.specs.Books.{meaning_of}
use Rattle.codebook.specs.Codebooks.{book}
use Rattle.coder.specs.Entries.{asks, says}
use Rattle.coder.specs.Law.{OneList}
use Rattle.layers.specs.Firsts.{preferring}
use Rattle.layers.specs.Keeps.{keeping}
use Rattle.rules.specs.Rules.{leads_nonzero, passes_luhn}
use Rattle.walk.specs.Walks.{walking}
use Rattle.lane_trials.specs.DeepPile.{piled}
use Rattle.lane_trials.proofs.pile_lanes.Goals as goal

pub returns : goal.returns
returns c =
    let q = c.in_ok-keep.ensures in
    let walk = c.new-3.result in
    let e1 = c.new-3.ensures.below in
    let e2 = q.0 in
    let e3 = q.1 in
    let e4 = c.new-pair.ensures.left in
    let e5 = c.new-pair.ensures.right in
    let e6 = c.new.ensures.below in
    let kept : walk.below.kept ≡ c.args.kept = cc in
    let left : walk.below.below.left.below ≡ c.args.codebook = cc in
    let right : walk.below.below.right ≡ c.args.network = cc in
    let P : Meaning → Type 0 = λ m. OneList m (map asks c.args.list.now) (map says c.make_calls.new.list) in
    let made = c.make_calls.ensures in
    let same : walking (keeping walk.below.kept (preferring (walking (meaning_of (book walk.below.below.left.below)) passes_luhn) (networked (network_of walk.below.below.right)))) leads_nonzero ≡ piled c.args.kept (book c.args.codebook) (network_of c.args.network) = cc in
    (q.2, record { kept = record { answered = made.answered; same = made.kept }; law = subst P same made.law })
