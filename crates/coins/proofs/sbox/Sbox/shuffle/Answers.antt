use Rattle.std.proofs.Common.{ℕ, ◌+◌, ◌-◌, ◌≤◌, List, sym, refl, ap, ◌∙◌, subst, arith}
use Rattle.coins.specs.Boxes.{swaps, swapped, MadeIn}
use Rattle.coins.specs.Sboxes.{entries}
use Rattle.coins.proofs.Passes.{passed_ok, passed_err, OnOk-at_ok}
use Rattle.coins.proofs.Swaps.{Shuffling, shuffling_none, shuffle_done, shuffle_bits, shuffle_fits, shuffle_more, shuffle_short, short_left}
use Rattle.coins.proofs.Takes.{leaves}
use Rattle.coins.proofs.sbox.Sbox.shuffle.Goals as goal

pub loop-i-init : goal.loop-i-init
loop-i-init g c =
    let s = c.args.self.now in
    record { so_far = shuffling_none (s.radix - 1) (entries s) (g.C.Coins.waiting c.args.coins.now); same = refl }

pub returns-in_err-j-clause-value : goal.returns-in_err-j-clause-value
returns-in_err-j-clause-value g c =
    let p = passed_err c.draw_below.result c.map_err.result c.from_residual.result c.in_err-j.field-0.0 c.in_err-j.was c.map_err.ensures.cases c.from_residual.ensures.1 in
    let whole = swaps (c.args.self.now.radix - 1) (entries c.args.self.now) (g.C.Coins.waiting c.args.coins.now) in
    let some : 1 ≤ c.loop-i.i - 1 = omega arith in
    subst (MadeIn (entries c.loop-i.self) whole) (sym p.2)
    (ap (λ o. o.answer) (shuffle_short c.loop-i.invariant.so_far p.0 some (p.1 ∙ c.draw_below.ensures.value)))

pub returns-in_err-j-clause-after : goal.returns-in_err-j-clause-after
returns-in_err-j-clause-after g c =
    let p = passed_err c.draw_below.result c.map_err.result c.from_residual.result c.in_err-j.field-0.0 c.in_err-j.was c.map_err.ensures.cases c.from_residual.ensures.1 in
    let some : 1 ≤ c.loop-i.i - 1 = omega arith in
    c.draw_below.ensures.after ∙ short_left c.loop-i.invariant.so_far p.0 some (p.1 ∙ c.draw_below.ensures.value)

pub overflow_add-taken : goal.overflow_add-taken
overflow_add-taken g c =
    let drew = passed_ok c.draw_below.result c.map_err.result (c.in_ok-j.j, c.in_ok-j.count) c.in_ok-j.was c.map_err.ensures.cases in
    let bits = OnOk-at_ok drew c.draw_below.ensures.bits in
    let some : 1 ≤ c.loop-i.i - 1 = omega arith in
    omega (arith, shuffle_fits c.loop-i.invariant.so_far c.in_ok-j.j c.in_ok-j.count some (drew ∙ c.draw_below.ensures.value) bits)

pub loop-i-preserved : goal.loop-i-preserved
loop-i-preserved g c =
    let drew = passed_ok c.draw_below.result c.map_err.result (c.in_ok-j.j, c.in_ok-j.count) c.in_ok-j.was c.map_err.ensures.cases in
    let bits = OnOk-at_ok drew c.draw_below.ensures.bits in
    let s = c.args.self.now in
    let start = s.radix - 1 in
    let coins = g.C.Coins.waiting c.args.coins.now in
    let whole = swaps start (entries s) coins in
    let some : 1 ≤ c.loop-i.i - 1 = omega arith in
    let i = c.loop-i.i - 1 - 1 in
    let taken = c.loop-i.taken + c.in_ok-j.count in
    let more = shuffle_more c.loop-i.invariant.so_far c.in_ok-j.j c.in_ok-j.count some (drew ∙ c.draw_below.ensures.value) bits in
    let at_rest =
    subst (λ (l : List ℕ). Shuffling start whole coins i (swapped (entries c.loop-i.self) (c.loop-i.i - 1) c.in_ok-j.j) l taken) (sym c.draw_below.ensures.after) more in
    record {
      so_far = subst (λ (l : List ℕ). Shuffling start whole coins i l (g.C.Coins.waiting c.draw_below.new.coins) taken) (sym c.swap.ensures.value) at_rest;
      same = c.swap.ensures.radix ∙ c.loop-i.invariant.same;
    }

pub returns-clause-value : goal.returns-clause-value
returns-clause-value g c = shuffle_done c.loop-i.invariant.so_far (omega arith)

pub returns-clause-after : goal.returns-clause-after
returns-clause-after g c =
    c.loop-i.invariant.so_far.waits ∙ sym (leaves (g.C.Coins.waiting c.args.coins.now) (shuffle_done c.loop-i.invariant.so_far (omega arith)))

pub returns-clause-bits : goal.returns-clause-bits
returns-clause-bits g c = shuffle_bits c.loop-i.invariant.so_far (omega arith)
