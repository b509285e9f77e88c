use Rattle.std.proofs.Common.{◌+◌, arith}
use Rattle.std.proofs.lemmas.Nat.{mul-add-lt}
use Rattle.ciphers.proofs.boxes.Boxes.look.Goals as goal

pub bounds-self-i : goal.bounds-self-i
bounds-self-i c =
    let s = c.args.self.now in
    let a = s.radix in
    omega (arith, mul-add-lt c.args.i (a + a) c.args.t 256 (omega arith) c.requires, s.reads.most, s.reads.long)
