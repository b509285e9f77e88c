use Rattle.std.proofs.Common.{◌≡◌, ℕ, ◌+◌, ◌-◌, ◌%◌, ◌<◌, ◌≤◌, ◌∙◌, arith}
use Rattle.ciphers.proofs.Moves.{minus_below, minus_above}
use Rattle.ciphers.proofs.boxes.Boxes.difference.Goals as goal

-- a difference of numbers up to 64 that wraps is above 128
kept : (a t b : ℕ) → a ≤ 64 → t < a → b < a → (t + (256 - b)) % 256 < 128 → (b ≤ t) × ((t + (256 - b)) % 256 ≡ t - b)
kept a t b most ht hb h = (omega arith, omega arith)

wrapped : (a t b : ℕ) → a ≤ 64 → t < a → b < a → 128 ≤ (t + (256 - b)) % 256 → (t < b) × (((t + (256 - b)) % 256 + a) % 256 ≡ t + (a - b))
wrapped a t b most ht hb h = (omega arith, omega arith)

pub returns-then-rest-lt128 : goal.returns-then-rest-lt128
returns-then-rest-lt128 c =
    let a = c.args.self.now.radix in
    let h = kept a c.args.t c.args.b c.args.self.now.reads.most c.requires.0 c.requires.1 c.if-rest-lt128.true in
    record { small = omega (arith, h.1, c.requires.0); value = h.1 ∙ minus_above a c.args.t c.args.b h.0 c.requires.0 c.requires.1 }

pub returns : goal.returns
returns c =
    let a = c.args.self.now.radix in
    let h = wrapped a c.args.t c.args.b c.args.self.now.reads.most c.requires.0 c.requires.1 c.if-rest-lt128.false in
    record { small = omega (arith, h.0, h.1, c.requires.1); value = h.1 ∙ minus_below a c.args.t c.args.b h.0 c.requires.1 }
