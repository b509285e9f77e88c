use Rattle.std.proofs.Common.{ap, ◌∙◌}
use Rattle.pools.specs.Rows.{rows_of}
use Rattle.ciphers.specs.Layers.{image, less}
use Rattle.ciphers.proofs.Moves.{less_none, less_some}
use Rattle.ciphers.proofs.boxes.Boxes.forward_symbol.Goals as goal

pub returns-then-w-eq0 : goal.returns-then-w-eq0
returns-then-w-eq0 c =
    let a = c.args.self.now.radix in
    let boxes = rows_of a 256 c.args.self.now.table.now in
    let i = c.args.i in
    record {
      small = c.look.ensures.small;
      value = less_none boxes a c.args.w i c.args.c c.look-u.result c.look.result c.look-u.ensures.small c.if-w-eq0.true c.look.ensures.value ∙ ap (λ u. image boxes i (less a c.args.w u c.args.c)) c.look-u.ensures.value;
    }

pub returns : goal.returns
returns c =
    let a = c.args.self.now.radix in
    let boxes = rows_of a 256 c.args.self.now.table.now in
    let i = c.args.i in
    record {
      small = c.look-2.ensures.small;
      value = less_some boxes a c.args.w i c.args.c c.look-u.result c.look-2.result c.look-u.ensures.small c.if-w-eq0.false c.look-2.ensures.value ∙ ap (λ u. image boxes i (less a c.args.w u c.args.c)) c.look-u.ensures.value;
    }
