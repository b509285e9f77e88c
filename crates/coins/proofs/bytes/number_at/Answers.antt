use Rattle.std.proofs.Common.{◌≡◌, ◌+◌, ◌-◌, ◌<◌, ◌≤◌, length, get_or, take, Some, None, sym, ap, ◌∙◌, arith}
use Rattle.std.proofs.lemmas.List.{length-drop}
use Rattle.std.proofs.lemmas.Bool.{cond-true, cond-false, le-leb, lt-leb}
use Rattle.coins.specs.Coins.{number, bits_of, bits_from}
use Rattle.coins.proofs.Bits.{length_bits_of, number_more, number_room, bit_below, bit_told, bit_missing}
use Rattle.coins.proofs.bytes.number_at.Goals as goal

pub overflow_mul-number : goal.overflow_mul-number
overflow_mul-number c =
    let h = number_room c.args.bytes.now c.args.from (c.loop-place.place - c.args.from) (omega arith) in
    omega (arith, c.loop-place.invariant.0)

pub returns-in_err-number : goal.returns-in_err-number
returns-in_err-number c =
    let bs = c.args.bytes.now in
    let m = bit_missing bs c.loop-place.place c.in_err-number.ensures in
    let few : length (bits_from c.args.from bs) < c.args.count = simp (length-drop, length_bits_of) (omega arith) in
    c.from_residual.ensures ∙ sym (cond-false _ _ None (lt-leb _ _ few))

pub overflow_add-number : goal.overflow_add-number
overflow_add-number c =
    let bs = c.args.bytes.now in
    let h = number_room bs c.args.from (c.loop-place.place - c.args.from) (omega arith) in
    let t = bit_told bs c.loop-place.place c.in_ok-number.field-0 c.in_ok-number.ensures in
    let b = bit_below bs c.loop-place.place t.0 in
    omega (arith, c.loop-place.invariant.0, t.1)

pub loop-place-preserved : goal.loop-place-preserved
loop-place-preserved c =
    let bs = c.args.bytes.now in
    let from = c.args.from in
    let i = c.loop-place.place - from in
    let t = bit_told bs c.loop-place.place c.in_ok-number.field-0 c.in_ok-number.ensures in
    let here : from + i ≡ c.loop-place.place = omega arith in
    let more = number_more bs from i (omega (arith, t.0)) in
    let next : i + 1 ≡ c.loop-place.place + 1 - from = omega arith in (
      omega (arith, c.loop-place.invariant.0, t.1, more, ap (λ p. get_or (bits_of bs) p 0) here, ap (λ n. number (take n (bits_from from bs))) next),
      omega (arith, t.0),
    )

pub returns : goal.returns
returns c =
    let bs = c.args.bytes.now in
    let enough : c.args.count ≤ length (bits_from c.args.from bs) = simp (length-drop, length_bits_of) (omega arith) in
    let all : c.loop-place.place - c.args.from ≡ c.args.count = omega arith in
    ap Some (c.loop-place.invariant.0 ∙ ap (λ n. number (take n (bits_from c.args.from bs))) all) ∙ sym (cond-true _ _ None (le-leb _ _ enough))
