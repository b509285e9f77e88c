use Rattle.std.proofs.Common.{◌≡◌, ◌<◌, ◌≤◌, length, Ok, Err, sym, ap, ◌∙◌, ⊎_elim, arith}
use Rattle.block_cipher.specs.Keyed.{key_of}
use Rattle.faults.specs.declared.fault.Cause.TheVariants.{Range}
use Rattle.faults.specs.Faults.{own}
use Rattle.coins.specs.Coins.{refusal, taking}
use Rattle.coins.proofs.Takes.{take_none, take_many, take_short, take_good, answers, leaves}
use Rattle.keys.specs.KeyBits.{remaining}
use Rattle.keys.proofs.BlockBits.{coins_left, coins_are_bits}
use Rattle.keys.proofs.key_coins.methods.KeyCoinsCoins.take.Goals as goal

pub returns-then-count-lt1 : goal.returns-then-count-lt1
returns-then-count-lt1 c =
    let s = c.args.self.now in
    let coins = remaining s in
    let e : taking c.args.count coins ≡ refusal (own Range) =
    ⊎_elim (take_none c.args.count coins) (λ h. take_many c.args.count coins h.1) c.then-count-lt1.either in
    record { bits = coins_are_bits (key_of s.aes) s.iv s.taken; value = ap Err c.own.ensures ∙ sym (answers e); after = sym (leaves coins e) }

pub returns-then-self-count-gt-ALL : goal.returns-then-self-count-gt-ALL
returns-then-self-count-gt-ALL c =
    let s = c.args.self.now in
    let coins = remaining s in
    let few : length coins < c.args.count = omega (arith, coins_left (key_of s.aes) s.iv s.taken) in
    let e = take_short c.args.count coins c.if-count-lt1.false c.if-count-gt16.false few in
    record { bits = coins_are_bits (key_of s.aes) s.iv s.taken; value = ap Err c.own-then-self-count-gt-ALL.ensures ∙ sym (answers e); after = sym (leaves coins e) }

pub returns : goal.returns
returns c =
    let s = c.args.self.now in
    let coins = remaining s in
    let enough : c.args.count ≤ length coins = omega (arith, coins_left (key_of s.aes) s.iv s.taken) in
    let e = take_good c.args.count coins c.if-count-lt1.false c.if-count-gt16.false enough in
    record {
      bits = coins_are_bits (key_of s.aes) s.iv s.taken;
      value = ap Ok c.next_bits.ensures.value ∙ sym (answers e);
      after = c.next_bits.ensures.after ∙ sym (leaves coins e);
    }
