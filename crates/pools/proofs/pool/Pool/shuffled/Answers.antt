use Rattle.std.proofs.Common.{◌≡◌, ℕ, ◌+◌, List, [], ◌∷◌, ◌++◌, Ok, Err, sym, ap, ◌∙◌, subst, ⊎_elim, arith, rules}
use Rattle.std.specs.Result.{result_copied}
use Rattle.std.proofs.lemmas.Result.{IfOk-at_ok}
use Rattle.faults.specs.Faults.{placed, deeper}
use Rattle.coins.specs.Boxes.{making}
use Rattle.coins.specs.Sboxes.{entries, boxed}
use Rattle.coins.proofs.Passes.{changed_ok, changed_err, handed_err}
use Rattle.coins.proofs.Swaps.{counted_ok, counted_err}
use Rattle.coins.proofs.Takes.{leaves}
use Rattle.pools.specs.Pools.{held}
use Rattle.pools.specs.Rows.{rows_of}
use Rattle.pools.specs.Shuffled.{makings}
use Rattle.pools.proofs.Makings.{Pooling, pool_low, pool_high, pool_within, pooling_none, pooling_more, pooling_done, pooling_short, short_left}
use Rattle.pools.proofs.pool.Pool.shuffled.Goals as goal

pub returns-then-radix-lt4 : goal.returns-then-radix-lt4
returns-then-radix-lt4 g c =
    let coins = g.C.Coins.waiting c.args.coins.now in
    let refused = ⊎_elim (pool_low c.args.radix coins) (λ h. pool_high c.args.radix coins h.1) c.then-radix-lt4.either in
    record { value = ap Err c.own.ensures ∙ ap (λ o. o.answer) (sym refused); after = sym (leaves coins refused); made = tt }

pub loop-n-init : goal.loop-n-init
unfolding rows_of
loop-n-init g c =
    let coins = g.C.Coins.waiting c.args.coins.now in
    let t = c.new-tables.result in
    record {
      made =
          subst (λ (n : ℕ). Pooling (makings c.args.radix 0 256 coins) coins c.args.radix 0 (rows_of t.radix n t.forward) coins)
          (sym c.new-tables.ensures.1) (pooling_none c.args.radix coins);
      count = c.new-tables.ensures.1;
      same = c.new-tables.ensures.0;
    }

pub returns-in_err-sbox-clause-value : goal.returns-in_err-sbox-clause-value
returns-in_err-sbox-clause-value g c =
    let p = changed_err _ c.as_ref.result c.map_err.result c.in_err-sbox.field-0.0 c.in_err-sbox.was c.map_err.ensures.cases in
    let said = p.2 in
    let told : c.in_err-sbox.field-0.0 ≡ placed (deeper p.0.now) c.loop-n.n-counter = search rules in
    let coins = g.C.Coins.waiting c.args.coins.now in
    let rest = g.C.Coins.waiting c.loop-n.coins in
    let same = ap (λ a. making a rest) c.from.ensures in
    let bad : (making c.args.radix rest).answer ≡ Err p.0.now =
    ap (λ o. o.answer) (sym same ∙ counted_err (making c.from.result rest) p.0.now (ap boxed (ap result_copied p.1 ∙ c.as_ref.ensures.value) ∙ c.shuffled-drawn.ensures.value)) in
    ap held (handed_err c.from_residual.result c.in_err-sbox.field-0.0 c.from_residual.ensures.1 ∙ ap Err told) ∙
    ap (λ o. o.answer) (sym (pool_within c.args.radix coins c.if-radix-lt4.false c.if-radix-gt64.false ∙ pooling_short c.loop-n.invariant.made (omega arith) p.0.now bad))

pub returns-in_err-sbox-clause-after : goal.returns-in_err-sbox-clause-after
returns-in_err-sbox-clause-after g c =
    let p = changed_err _ c.as_ref.result c.map_err.result c.in_err-sbox.field-0.0 c.in_err-sbox.was c.map_err.ensures.cases in
    let coins = g.C.Coins.waiting c.args.coins.now in
    let rest = g.C.Coins.waiting c.loop-n.coins in
    let same = ap (λ a. making a rest) c.from.ensures in
    let bad : (making c.args.radix rest).answer ≡ Err p.0.now =
    ap (λ o. o.answer) (sym same ∙ counted_err (making c.from.result rest) p.0.now (ap boxed (ap result_copied p.1 ∙ c.as_ref.ensures.value) ∙ c.shuffled-drawn.ensures.value)) in
    c.shuffled-drawn.ensures.after ∙ leaves rest same ∙ short_left c.loop-n.invariant.made (omega arith) p.0.now bad ∙
    sym (leaves coins (pool_within c.args.radix coins c.if-radix-lt4.false c.if-radix-gt64.false))

pub push-requires-clause-radix : goal.push-requires-clause-radix
push-requires-clause-radix g c =
    let did = ap result_copied (changed_ok _ c.as_ref.result c.map_err.result c.in_ok-sbox.field-0 c.in_ok-sbox.was c.map_err.ensures.cases) ∙ c.as_ref.ensures.value in
    IfOk-at_ok (λ drawn. drawn.0.radix ≡ c.from.result) (sym did) c.shuffled-drawn.ensures.radix ∙ c.from.ensures ∙ sym c.loop-n.invariant.same

pub loop-n-preserved : goal.loop-n-preserved
loop-n-preserved g c =
    let did = ap result_copied (changed_ok _ c.as_ref.result c.map_err.result c.in_ok-sbox.field-0 c.in_ok-sbox.was c.map_err.ensures.cases) ∙ c.as_ref.ensures.value in
    let coins = g.C.Coins.waiting c.args.coins.now in
    let whole = makings c.args.radix 0 256 coins in
    let rest = g.C.Coins.waiting c.loop-n.coins in
    let same = ap (λ a. making a rest) c.from.ensures in
    let row = entries c.in_ok-sbox.field-0.now.0 in
    let good = sym same ∙ counted_ok (making c.from.result rest) row c.in_ok-sbox.field-0.now.1 (ap boxed did ∙ c.shuffled-drawn.ensures.value) in
    let more = pooling_more c.loop-n.invariant.made (omega arith) row c.in_ok-sbox.field-0.now.1 good in
    let n = c.loop-n.n-counter + 1 in
    let left = c.shuffled-drawn.ensures.after ∙ leaves rest same in
    record {
      made =
          subst (λ (l : List (List ℕ)). Pooling whole coins c.args.radix n l (g.C.Coins.waiting c.shuffled-drawn.new.coins)) (sym c.push.ensures.rows)
          (subst (λ (l : List ℕ). Pooling whole coins c.args.radix n (rows_of c.loop-n.tables.radix c.loop-n.tables.count c.loop-n.tables.forward ++ row ∷ []) l) (sym left) more);
      count = c.push.ensures.more ∙ ap (λ k. k + 1) c.loop-n.invariant.count;
      same = c.push.ensures.same ∙ c.loop-n.invariant.same;
    }

pub returns-clause-value : goal.returns-clause-value
returns-clause-value g c =
    let coins = g.C.Coins.waiting c.args.coins.now in
    let t = c.loop-n.tables in
    let end : t.count ≡ 256 = omega (arith, c.loop-n.invariant.count) in
    let done = pool_within c.args.radix coins c.if-radix-lt4.false c.if-radix-gt64.false ∙ pooling_done c.loop-n.invariant.made c.loop-n-test.false in
    ap Ok (c.pool.ensures.boxes ∙ ap (λ n. rows_of t.radix n t.forward) (sym end)) ∙ sym (ap (λ o. o.answer) done)

pub returns-clause-after : goal.returns-clause-after
returns-clause-after g c =
    let coins = g.C.Coins.waiting c.args.coins.now in
    let done = pool_within c.args.radix coins c.if-radix-lt4.false c.if-radix-gt64.false ∙ pooling_done c.loop-n.invariant.made c.loop-n-test.false in
    c.loop-n.invariant.made.waits ∙ sym (leaves coins done)
