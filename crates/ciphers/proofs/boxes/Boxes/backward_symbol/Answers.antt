use Rattle.std.proofs.Common.{◌≡◌, ap, ◌∙◌, mod-eq_of_lt}
use Rattle.pools.specs.Rows.{rows_of}
use Rattle.ciphers.specs.Layers.{image, minus, more}
use Rattle.ciphers.proofs.Moves.{more_none, more_some}
use Rattle.ciphers.proofs.boxes.Boxes.backward_symbol.Goals as goal

pub returns-then-w-eq0 : goal.returns-then-w-eq0
returns-then-w-eq0 c =
    let a = c.args.self.now.radix in
    let boxes = rows_of a 256 c.args.self.now.table.now in
    let i = c.args.i in
    let u : c.look-u.result ≡ image boxes i c.args.x = c.look-u.ensures.value ∙ ap (image boxes i) (mod-eq_of_lt c.requires.0) in
    record {
      small = c.difference.ensures.small;
      value = c.difference.ensures.value ∙ ap (λ t. minus a t c.args.b) (more_none boxes a c.args.w i c.args.c c.look-u.result c.look.result c.look-u.ensures.small c.if-w-eq0.true c.look.ensures.value ∙ ap (λ n. image boxes i (more a c.args.w n c.args.c)) u);
    }

pub returns : goal.returns
returns c =
    let a = c.args.self.now.radix in
    let boxes = rows_of a 256 c.args.self.now.table.now in
    let i = c.args.i in
    let u : c.look-u.result ≡ image boxes i c.args.x = c.look-u.ensures.value ∙ ap (image boxes i) (mod-eq_of_lt c.requires.0) in
    record {
      small = c.difference-2.ensures.small;
      value = c.difference-2.ensures.value ∙ ap (λ t. minus a t c.args.b) (more_some boxes a c.args.w i c.args.c c.look-u.result c.look-2.result c.look-u.ensures.small c.if-w-eq0.false c.look-2.ensures.value ∙ ap (λ n. image boxes i (more a c.args.w n c.args.c)) u);
    }
