use Rattle.std.proofs.Common.{rules, arith}
use Rattle.block_cipher.specs.MacKey.{mac_key_of}
use Rattle.ciphers.specs.Kept.{label_in}
use Rattle.ciphers.specs.Networks.{sequence_of}
use Rattle.ciphers.proofs.Keeping.{placed, redefined}
use Rattle.ciphers.proofs.fast.Fast.keep.Goals as goal

pub invariant_of-self-2 : goal.invariant_of-self-2
invariant_of-self-2 c =
    let s = c.args.self.now in
    record {
      whole = search rules;
      within = search rules;
      defined = redefined (mac_key_of s.mac) (sequence_of s.pool.origin) s.pool.radix _ _ c.sequence-sequence.ensures c.radix-radix.ensures (label_in c.args.wanted.now) s.kept s.next c.fill.new.self c.fill.ensures.labelled c.fill.ensures.indices s.defined;
    }

pub returns-clause-stands : goal.returns-clause-stands
returns-clause-stands c =
    let s = c.args.self.now in
    placed (label_in c.args.wanted.now) s.kept s.next c.fill.new.self (omega (arith, s.within, s.whole)) c.fill.ensures.labelled
