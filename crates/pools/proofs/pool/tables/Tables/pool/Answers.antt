use Rattle.std.proofs.Common.{ℕ, subst}
use Rattle.pools.specs.Rows.{Filled}
use Rattle.pools.proofs.pool.tables.Tables.pool.Goals as goal

pub invariant_of-result : goal.invariant_of-result
invariant_of-result c =
    let t = c.args.self in
    let f = subst (λ (n : ℕ). Filled t.radix n t.forward t.inverse) c.requires t.filled in
    record {
      least = t.least;
      most = t.most;
      whole = t.whole;
      whole_inverse = t.whole_inverse;
      doubled = f.doubled;
      doubled_inverse = f.doubled_inverse;
      inside = f.inside;
      inside_inverse = f.inside_inverse;
      there = f.there;
      back = f.back;
    }
