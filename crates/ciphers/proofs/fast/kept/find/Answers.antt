use Rattle.std.proofs.Common.{◌≡◌, Some, rules}
use borrow.Author.Tests.{tests}
use Rattle.std.proofs.lemmas.Iterator.{IsFirst-from_position, YieldsList-from_slice}
use Rattle.ciphers.specs.Kept.{label_in, label_of}
use Rattle.ciphers.proofs.Keeping.{found_first}
use Rattle.ciphers.proofs.fast.kept.find.Goals as goal

pub returns : goal.returns
returns c =
    let l = label_in c.args.wanted.now in
    let kept = c.args.kept.now in
    found_first l kept _ (IsFirst-from_position _ _ _ (λ e. label_of e ≡ Some l) (λ e. label_of e ≡ Some l → ⊥) c.position.ensures.ran (YieldsList-from_slice kept cc) (λ x q k. search (rules, tests)) (λ x q k. search (rules, tests)))
