use Rattle.std.proofs.Common.{ℕ, sym, refl, ap, ◌∙◌, subst}
use Rattle.std.specs.Result.{is_ok}
use Rattle.keys.specs.Distances.{w_of}
use Rattle.ciphers.specs.Layers.{Near}
use Rattle.ciphers.specs.Networked.{near, in_range, measured}
use Rattle.ciphers.proofs.reach.Reach.of.Goals as goal

pub unwrap-distances-requires : goal.unwrap-distances-requires
unwrap-distances-requires c = ap is_ok (c.branch_distances.ensures ∙ in_range c.args.len c.requires.0 c.requires.1)

pub invariant_of-result : goal.invariant_of-result
invariant_of-result c =
    let len = c.args.len in
    let d = c.unwrap-distances.result in
    let is = measured len d c.requires.0 c.requires.1 (sym c.unwrap-distances.ensures ∙ c.branch_distances.ensures) in
    record {
      near = subst (λ (x : ℕ). Near len x d.w_prime) (sym is.0) (subst (λ (x : ℕ). Near len (w_of len) x) (sym is.1) (near len c.requires.0));
      short = c.requires.1;
    }

pub returns : goal.returns
returns c =
    let is = measured c.args.len c.unwrap-distances.result c.requires.0 c.requires.1 (sym c.unwrap-distances.ensures ∙ c.branch_distances.ensures) in
    record { len = refl; w = is.0; v = is.1 }
