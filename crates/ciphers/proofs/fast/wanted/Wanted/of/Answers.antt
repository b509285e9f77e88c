use Rattle.std.proofs.Common.{◌&&◌, leb, ap, ◌∙◌, arith}
use Rattle.formats.specs.Shapes.{form}
use Rattle.keys.specs.Sequences.{layered}
use Rattle.ciphers.specs.Networked.{sized_form}
use Rattle.ciphers.proofs.fast.wanted.Wanted.of.Goals as goal

pub invariant_of-result : goal.invariant_of-result
invariant_of-result c =
    let f = form c.args.shape.now in
    record {
      named = c.requires.run;
      fits = ap (λ n. (leb 2 n && leb n 32) && layered n c.layers.result) c.len.ensures
          ∙ (ap (λ n. (leb 2 f.len && leb f.len 32) && layered f.len n) c.layers.ensures.value ∙ sized_form 4 f (omega arith) (omega arith) c.requires.two c.layers.ensures.limits);
    }
