use Rattle.std.proofs.Common.{◌≡◌, ◌∙◌, arith}
use Rattle.std.specs.List.{slice_get}
use Rattle.std.proofs.lemmas.Grind.{common_steps}
use Rattle.std.proofs.lemmas.Option.{gets}
use Rattle.coins.specs.Sboxes.{inverses}
use Rattle.coins.proofs.Places.{place_told}
use Rattle.coins.proofs.sbox.Sbox.undo.Goals as goal

pub returns : goal.returns
returns c =
    let b = c.args.self.now in
    let read : c.copied.result ≡ slice_get (inverses b) c.args.y = grind (arith, common_steps, gets) in
    read ∙ place_told b.radix b.forward (omega arith) b.inverse b.there b.back c.args.y (omega arith)
