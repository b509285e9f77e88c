use Rattle.std.proofs.Common.{◌≡◌, length, Some, sym, ◌∙◌, arith}
use Rattle.std.specs.Option.{option_map}
use Rattle.text.specs.declared.hex.Letters.TheVariants.{Either}
use Rattle.text.specs.Hex.{bytes_of}
use Rattle.block_lines.proofs.Tags.{room, tagged}
use Rattle.block_lines.proofs.answer.tag.Goals as goal
use Rattle.block_lines.proofs.answer.tag.Goals.{In_ok-n}

-- the digits spell so many bytes
spelled : (c : In_ok-n) → Some c.in_ok-n.n ≡ option_map length (bytes_of Either c.args.digits.now)
spelled c = sym c.in_ok-n.ensures.ok_part ∙ c.decode.ensures.value

pub slice_bounds-tag-end : goal.slice_bounds-tag-end
slice_bounds-tag-end c =
    omega (arith, room (bytes_of Either c.args.digits.now) c.args.digits.now c.decode.new.text c.in_ok-n.n (spelled (goal.at.slice_bounds-tag-end c).In_ok-n) c.decode.ensures.after)

pub returns-clause-value : goal.returns-clause-value
returns-clause-value c =
    tagged (bytes_of Either c.args.digits.now) c.args.digits.now c.decode.new.text c.args.key _ c.tag.result c.in_ok-n.n (spelled (goal.at.returns-clause-value c).In_ok-n) c.decode.ensures.after c.new.ensures c.tag.ensures
