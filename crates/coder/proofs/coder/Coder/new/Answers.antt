use Rattle.std.proofs.Common.{List, [], Option, length, sym, refl, ap, subst}
use Rattle.std.specs.List.{list_all}
use Rattle.coder.specs.Handed.{Through}
use Rattle.coder.specs.Machine.{Held}
use Rattle.coder.specs.Records.{short_run}
use Rattle.coder.proofs.Handed.{new_through}
use Rattle.coder.proofs.coder.Coder.new.Goals as goal

pub invariant_of-result : goal.invariant_of-result
invariant_of-result g c = record { eight = ap length c.new.ensures; short = ap (list_all short_run) c.new.ensures }

pub returns : goal.returns
returns g c =
    let m = g.T.FormatCipher.meaning c.args.cipher in
    let P : List (Option Held) → Type 0 = λ lanes. Through m lanes [] in
    record { cipher = refl; lanes = c.new.ensures; through = subst P (sym c.new.ensures) (new_through m) }
