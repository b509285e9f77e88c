use Rattle.coins.proofs.Takes.{byte_coins_bits}
use Rattle.std.proofs.Common.{◌≡◌, ◌-◌, ◌*◌, ◌≤◌, length, sym, ◌∙◌, arith}
use Rattle.std.proofs.lemmas.List.{length-drop}
use Rattle.std.proofs.lemmas.Bool.{leb-true}
use Rattle.std.proofs.lemmas.Option.{cond_some}
use Rattle.coins.specs.Coins.{bits_from}
use Rattle.coins.proofs.Bits.{length_bits_of}
use Rattle.coins.proofs.bytes.ByteCoinsCoins.take.Goals as goal

pub returns-then-count-lt1-clause-bits : goal.returns-then-count-lt1-clause-bits
returns-then-count-lt1-clause-bits c = let s = c.args.self.now in byte_coins_bits s.bytes.now s.pos s.short

pub returns-in_err-number-clause-bits : goal.returns-in_err-number-clause-bits
returns-in_err-number-clause-bits c = let s = c.args.self.now in byte_coins_bits s.bytes.now s.pos s.short

pub returns-clause-bits : goal.returns-clause-bits
returns-clause-bits c = let s = c.args.self.now in byte_coins_bits s.bytes.now s.pos s.short

pub invariant_of-self : goal.invariant_of-self
invariant_of-self c =
    let s = c.args.self.now in
    let told = cond_some _ _ c.in_ok-number.number (sym c.number_at.ensures ∙ c.in_ok-number.ensures.ok_part) in
    let enough : c.args.count ≤ length (bits_from s.pos s.bytes.now) = leb-true _ _ told.0 in
    let left : length (bits_from s.pos s.bytes.now) ≡ 8 * length s.bytes.now - s.pos = simp (length-drop, length_bits_of) in
    record { short = s.short; within = omega (arith, s.within) }
