use Rattle.std.proofs.Common.{◌≡◌, ◌-◌, length, drop, sym, ap, ◌∙◌, arith}
use Rattle.std.proofs.lemmas.List.{length-take}
use Rattle.sessions.proofs.Fronts.{moved}
use Rattle.sessions.proofs.waiting.Waiting.keep_last.Goals as goal

pub returns : goal.returns
returns c =
    let bytes = c.self.inside.bytes in
    let len = c.self.inside.len in
    let n = c.args.n in
    let long : length c.args.self.now ≡ len = omega (arith, ap length c.self.view_is, length-take len bytes) in
    moved bytes c.copy_within.new.self len n (len - (len - n)) (omega arith) (omega arith) (omega arith) c.copy_within.ensures.after
    ∙ ap (drop (len - n)) c.self.view_is
    ∙ ap (λ k. drop (k - n) c.args.self.now) (sym long)
