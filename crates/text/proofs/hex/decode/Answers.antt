use Rattle.std.proofs.Common.{◌≡◌, ◌/◌, length, Some, sym, ap, ◌∙◌, arith}
use Rattle.text.proofs.InPlace.{refused_value, refused_after, still_the_same, one_byte_more, never_refused, read_value, read_after}
use Rattle.text.proofs.hex.decode.Goals as goal

pub returns-then-not-is_bytes : goal.returns-then-not-is_bytes
returns-then-not-is_bytes c = record {
  value = refused_value _ c.if-not-is_bytes.ensures;
  after = refused_after c.args.text.now _ c.if-not-is_bytes.ensures;
}

pub returns-in_err-b : goal.returns-in_err-b
returns-in_err-b c =
    absurd (never_refused c.args.letters c.args.text.now c.loop-i.text c.loop-i.i c.loop-i.invariant.0 c.loop-i.invariant.1 c.if-not-is_bytes.ensures (omega arith) c.in_err-b.ensures)

pub loop-i-preserved : goal.loop-i-preserved
loop-i-preserved c = (
  still_the_same c.args.letters c.args.text.now c.loop-i.text c.loop-i.i c.loop-i.invariant.0 c.in_ok-b.b,
  one_byte_more c.args.letters c.args.text.now c.loop-i.text c.loop-i.i c.loop-i.invariant.0 c.loop-i.invariant.1 c.in_ok-b.b (omega arith) (omega arith) c.in_ok-b.ensures,
)

pub returns : goal.returns
returns c =
    let n : c.loop-i.i ≡ length c.args.text.now / 2 = omega arith in
    record {
      value = ap (λ k. Some k) (sym n) ∙ read_value c.args.letters c.args.text.now c.loop-i.text c.loop-i.i c.loop-i.invariant.0 c.loop-i.invariant.1 c.if-not-is_bytes.ensures n (omega arith);
      after = read_after c.args.letters c.args.text.now c.loop-i.text c.loop-i.i c.loop-i.invariant.0 c.loop-i.invariant.1 c.if-not-is_bytes.ensures n (omega arith);
    }
