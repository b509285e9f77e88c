use Rattle.std.proofs.Common.{ℕ, ◌+◌, ◌<◌, List, length, Ok, Err, sym, ap, ◌∙◌, subst, ⊎_elim, arith}
use Rattle.coins.specs.Coins.{counted}
use Rattle.coins.proofs.Draws.{Turn, draw_low, draw_high, turn_again, turn_done, turn_left, turn_bits, turn_share, turn_below, turn_fits, turn_less, turn_short, short_left}
use Rattle.coins.proofs.Passes.{passed_ok, passed_err}
use Rattle.coins.proofs.Takes.{leaves}
use Rattle.coins.proofs.draw.draw_below.Goals as goal

pub returns-then-bound-lt2 : goal.returns-then-bound-lt2
returns-then-bound-lt2 g c =
    let coins = g.C.Coins.waiting c.args.coins.now in
    let refused = ⊎_elim (draw_low c.args.bound coins) (λ h. draw_high c.args.bound coins h.1) c.then-bound-lt2.either in
    record { value = ap Err c.own.ensures ∙ ap counted (sym refused); after = sym (leaves coins refused); bits = tt; below = tt }

pub returns-in_err-v-clause-value : goal.returns-in_err-v-clause-value
returns-in_err-v-clause-value g c =
    let p = passed_err c.take.result c.map_err.result c.from_residual.result c.in_err-v.field-0.0 c.in_err-v.was c.map_err.ensures.cases c.from_residual.ensures.1 in
    p.2 ∙ ap counted (sym (turn_short c.loop-v.invariant p.0 (p.1 ∙ c.take.ensures.value)))

pub returns-in_err-v-clause-after : goal.returns-in_err-v-clause-after
returns-in_err-v-clause-after g c =
    let p = passed_err c.take.result c.map_err.result c.from_residual.result c.in_err-v.field-0.0 c.in_err-v.was c.map_err.ensures.cases c.from_residual.ensures.1 in
    c.take.ensures.after ∙ short_left c.loop-v.invariant p.0 (p.1 ∙ c.take.ensures.value)

pub overflow_add-taken : goal.overflow_add-taken
overflow_add-taken g c =
    let value = passed_ok c.take.result c.map_err.result c.in_ok-v.v c.in_ok-v.was c.map_err.ensures.cases ∙ c.take.ensures.value in
    omega (arith, turn_fits c.loop-v.invariant c.in_ok-v.v value c.take.ensures.bits, c.from-taken.ensures)

pub given_by-requires : goal.given_by-requires
given_by-requires g c =
    let value = passed_ok c.take.result c.map_err.result c.in_ok-v.v c.in_ok-v.was c.map_err.ensures.cases ∙ c.take.ensures.value in
    record {
      bound = (c.if-bound-lt2.false, c.if-bound-gt4096.false);
      count = c.try_width-count.ensures;
      coins = turn_below c.loop-v.invariant c.in_ok-v.v value c.take.ensures.bits.each;
    }

pub returns-in-Some : goal.returns-in-Some
returns-in-Some g c =
    let value = passed_ok c.take.result c.map_err.result c.in_ok-v.v c.in_ok-v.was c.map_err.ensures.cases ∙ c.take.ensures.value in
    let done = turn_done c.loop-v.invariant c.in_ok-v.v value c.in-Some.number c.in-Some.ensures in
    record {
      value = ap (λ n. Ok (c.in-Some.number, c.loop-v.taken + n)) c.from-taken.ensures ∙ ap counted (sym done);
      after = c.take.ensures.after ∙ turn_left c.loop-v.invariant c.in_ok-v.v value c.in-Some.number c.in-Some.ensures;
      bits = turn_bits c.loop-v.invariant c.in_ok-v.v value c.take.ensures.bits;
      below = turn_share c.loop-v.invariant c.in_ok-v.v value c.take.ensures.bits.each c.in-Some.number c.in-Some.ensures;
    }

pub loop-v-smaller : goal.loop-v-smaller
loop-v-smaller g c =
    let value = passed_ok c.take.result c.map_err.result c.in_ok-v.v c.in_ok-v.was c.map_err.ensures.cases ∙ c.take.ensures.value in
    subst (λ (l : List ℕ). length l < length (g.C.Coins.waiting c.loop-v.coins)) (sym c.take.ensures.after) (turn_less c.loop-v.invariant c.in_ok-v.v value)

pub loop-v-preserved : goal.loop-v-preserved
loop-v-preserved g c =
    let value = passed_ok c.take.result c.map_err.result c.in_ok-v.v c.in_ok-v.was c.map_err.ensures.cases ∙ c.take.ensures.value in
    let again = turn_again c.loop-v.invariant c.in_ok-v.v value c.take.ensures.bits c.in_default.ensures in
    let k = c.args.bound in
    let coins = g.C.Coins.waiting c.args.coins.now in
    let count = c.try_width-count.result in
    let at_rest : Turn k coins count (g.C.Coins.waiting c.take.new.self) (c.loop-v.taken + count) =
    subst (λ (l : List ℕ). Turn k coins count l (c.loop-v.taken + count)) (sym c.take.ensures.after) again in
    subst (λ (n : ℕ). Turn k coins count (g.C.Coins.waiting c.take.new.self) (c.loop-v.taken + n)) (sym c.from-taken.ensures) at_rest
