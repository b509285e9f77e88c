use Rattle.std.proofs.Common.{◌≡◌, true, [], ◌∷◌, length, arith, sym, refl, ap, ◌∙◌}
use Rattle.std.proofs.lemmas.List.{nil_from_length}
use Rattle.std.proofs.lemmas.Bool.{not-true, not-false}
use Rattle.coins.specs.Boxes.{absent, below_once, permutes}
use Rattle.coins.proofs.Tells.{once_high, once_again, once_on, once_end, stands}
use Rattle.coins.proofs.sbox.given.is_permutation.Goals.{then-from-table-via-then-from-table, then-from-table-via-else-from-table+then-contains}
use Rattle.coins.proofs.sbox.given.is_permutation.Goals as goal

pub loop-first-init : goal.loop-first-init
unfolding permutes
loop-first-init c = refl

pub returns-then-from-table : goal.returns-then-from-table
returns-then-from-table c =
    let h = c.in-Some.ensures.cases in
    let n = length c.args.table.now in
    let x = c.in-Some.first.now in
    let others = c.in-Some.others.now in
    let here : below_once n (x ∷ others) ≡ permutes c.args.table.now = ap (below_once n) (sym h.0) ∙ c.loop-first.invariant in
    elim c.then-from-table.branch [
      | then-from-table-via-then-from-table w ↦ sym (once_high n x others (omega (arith, w.if-from-table.true))) ∙ here
      | then-from-table-via-else-from-table+then-contains w ↦
          sym (once_again n x others (not-true _ (sym (stands x others) ∙ sym w.contains.ensures.value ∙ w.if-contains.true))) ∙ here
    ]

pub loop-first-preserved : goal.loop-first-preserved
loop-first-preserved c =
    let h = c.in-Some.ensures.cases in
    let n = length c.args.table.now in
    let x = c.in-Some.first.now in
    let others = c.in-Some.others.now in
    let none : absent x others ≡ true = not-false _ (sym (stands x others) ∙ sym c.contains.ensures.value ∙ c.if-contains.false) in
    sym (once_on n x others (omega arith) none) ∙ ap (below_once n) (sym h.0) ∙ c.loop-first.invariant

pub returns : goal.returns
returns c =
    let n = length c.args.table.now in
    let empty : c.loop-first.rest.now ≡ [] = nil_from_length _ c.in_default.ensures.cases in
    sym (once_end n) ∙ ap (below_once n) (sym empty) ∙ c.loop-first.invariant
