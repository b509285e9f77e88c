use Rattle.std.proofs.Common.{◌≡◌, ℕ, ◌/◌, ◌%◌, get_or, Some, sym, ap, ◌∙◌, arith}
use Rattle.std.proofs.lemmas.Option.{slice_get-get_or, slice_get_past}
use Rattle.coins.specs.Coins.{byte_bits, bits_of}
use Rattle.coins.proofs.Bits.{bit_of_bytes, length_bits_of}
use Rattle.coins.proofs.bit.bit_at.Goals as goal

pub returns-then-place-count : goal.returns-then-place-count
returns-then-place-count c = sym (slice_get_past (bits_of c.args.bytes.now) c.args.place (omega (arith, length_bits_of c.args.bytes.now)))

pub returns : goal.returns
returns c =
    let bs = c.args.bytes.now in
    let b = get_or bs (c.args.place / 8) 0 in
    let at : (k : ℕ) → k ≡ c.args.place % 8 → get_or (byte_bits b) k 0 ≡ get_or (byte_bits b) (c.args.place % 8) 0 = λ k e. ap (λ r. get_or (byte_bits b) r 0) e in
    ap Some (c.bit_of.ensures ∙ at _ (omega arith) ∙ sym (bit_of_bytes bs c.args.place (omega arith))) ∙
    sym (slice_get-get_or (bits_of bs) c.args.place 0 (omega (arith, length_bits_of bs)))
