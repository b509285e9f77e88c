use Rattle.std.proofs.Common.{◌≡◌, ◌-◌, ℕ, List, Some, Err, sym, ap, ◌∙◌, ⊎_elim}
use Rattle.coins.specs.declared.sbox.Sbox.{Sbox}
use Rattle.coins.specs.Boxes.{swaps, making}
use Rattle.coins.specs.Coins.{counted, with_count}
use Rattle.coins.specs.Sboxes.{entries, boxed, unmoved}
use Rattle.coins.proofs.Passes.{handed_err}
use Rattle.coins.proofs.Swaps.{make_low, make_high, make_from}
use Rattle.coins.proofs.Takes.{leaves}
use Rattle.coins.proofs.sbox.Sbox.shuffled.Goals as goal

pub returns-then-radix-lt2 : goal.returns-then-radix-lt2
returns-then-radix-lt2 g c =
    let coins = g.C.Coins.waiting c.args.coins.now in
    let refused = ⊎_elim (make_low c.args.radix coins) (λ h. make_high c.args.radix coins h.1) c.then-radix-lt2.either in
    record { value = ap boxed (ap Err c.own.ensures) ∙ ap counted (sym refused); after = sym (leaves coins refused); radix = tt }

-- the swaps are what making a box is
made : (a : ℕ) (coins : List ℕ) (b : Sbox) → Some (entries b) ≡ unmoved a → b.radix ≡ a → swaps (b.radix - 1) (entries b) coins ≡ making a coins
made a coins b value radix = ap (λ n. swaps (n - 1) (entries b) coins) radix ∙ make_from a coins (entries b) value

pub returns-in_err-drawn-clause-value : goal.returns-in_err-drawn-clause-value
returns-in_err-drawn-clause-value g c =
    let coins = g.C.Coins.waiting c.args.coins.now in
    let same = made c.args.radix coins c.unmoved.result c.unmoved.ensures.value c.unmoved.ensures.radix in
    ap boxed (handed_err c.from_residual.result c.in_err-drawn.field-0.0 c.from_residual.ensures.1) ∙
    ap (λ r. with_count r (making c.args.radix coins).gone) (sym c.in_err-drawn.ensures.value ∙ ap (λ o. o.answer) same)

pub returns-in_err-drawn-clause-after : goal.returns-in_err-drawn-clause-after
returns-in_err-drawn-clause-after g c =
    let coins = g.C.Coins.waiting c.args.coins.now in
    let same = made c.args.radix coins c.unmoved.result c.unmoved.ensures.value c.unmoved.ensures.radix in
    c.shuffle.ensures.after ∙ leaves coins same

pub returns-clause-value : goal.returns-clause-value
returns-clause-value g c =
    let coins = g.C.Coins.waiting c.args.coins.now in
    let same = made c.args.radix coins c.unmoved.result c.unmoved.ensures.value c.unmoved.ensures.radix in
    ap counted (sym c.in_ok-drawn.ensures.value ∙ same)

pub returns-clause-after : goal.returns-clause-after
returns-clause-after g c =
    let coins = g.C.Coins.waiting c.args.coins.now in
    let same = made c.args.radix coins c.unmoved.result c.unmoved.ensures.value c.unmoved.ensures.radix in
    c.shuffle.ensures.after ∙ leaves coins same
