-- Lanes seen through their records. Assumes nothing.
use Rattle.std.proofs.Common.{◌≡◌, ℕ, zero, suc, true, List, [], ◌∷◌, length, get_or, set, Some, None, Option, refl, arith}
use Rattle.std.specs.List.{list_all}
use Rattle.std.specs.Option.{option_map}
use Rattle.std.proofs.lemmas.Bool.{and_parts, and_from, le-leb}
use Rattle.std.proofs.lemmas.List.{length-take}
use Rattle.coder.specs.declared.record.Record.{Record}
use Rattle.coder.specs.Machine.{Held}
use Rattle.coder.specs.Records.{named, views, short_run}

-- past the last lane there is no run
pub view_at : (rs : List (Option Record)) (i : ℕ) → option_map named (get_or rs i None) ≡ get_or (views rs) i None
view_at [] i = refl
view_at (r ∷ rs) zero = refl
view_at (r ∷ rs) (suc i) = view_at rs i

-- a record has room for a run name of 32 bytes
pub short_named : (r : Record) → short_run (Some (named r)) ≡ true
short_named r = le-leb (length (named r).run) _ (omega (arith, r.short, length-take r.name_len r.name))

-- one lane of some is put under what has a short run too, or under nothing
pub short_set : (lanes : List (Option Held)) (i : ℕ) (u : Option Held) → list_all short_run lanes ≡ true → short_run u ≡ true → list_all short_run (set lanes i u) ≡ true
short_set [] i u all short = refl
short_set (v ∷ lanes) zero u all short = and_from (short_run u) (list_all short_run lanes) short (and_parts (short_run v) (list_all short_run lanes) all).1
short_set (v ∷ lanes) (suc i) u all short =
    let p = and_parts (short_run v) (list_all short_run lanes) all in
    and_from (short_run v) (list_all short_run (set lanes i u)) p.0 (short_set lanes i u p.1 short)
