use Rattle.std.proofs.Common.{◌≡◌, ℕ, ◌<◌, List, get_or, sym, ◌∙◌, arith}
use Rattle.pools.proofs.File.{Form, head_at, parts_none, parts_some}
use Rattle.pools.proofs.pool.file.parts.Goals.{then-head-via-then-head, then-head-via-else-head+then-head-2, then-head-via-else-head+else-head-2+then-head-3}
use Rattle.pools.proofs.pool.file.parts.Goals.{then-head-4-via-then-head-4, then-head-4-via-else-head-4+then-head-5}
use Rattle.pools.proofs.pool.file.parts.Goals.{then-radix-lt4-via-then-radix-lt4, then-radix-lt4-via-else-radix-lt4+then-radix-gt64, then-radix-lt4-via-else-radix-lt4+else-radix-gt64+then-rows-from}
use Rattle.pools.proofs.pool.file.parts.Goals as goal

pub returns-in_err-head : goal.returns-in_err-head
returns-in_err-head c = rw c.from_residual.ensures (parts_none c.args.bytes.now (λ f. omega (arith, f.size, c.in_err-head.ensures.cases)))

pub returns-then-head : goal.returns-then-head
returns-then-head c =
    let at : (i : ℕ) → i < 6 → get_or c.in_ok-head.head.now i 0 ≡ get_or c.args.bytes.now i 0 = λ i h. head_at c.args.bytes.now c.in_ok-head.head.now i c.in_ok-head.ensures.cases.0 h in
    parts_none c.args.bytes.now (λ f.
    elim c.then-head.branch [
      | then-head-via-then-head w ↦ w.if-head.true (at 0 (omega arith) ∙ f.first)
      | then-head-via-else-head+then-head-2 w ↦ w.if-head-2.true (at 1 (omega arith) ∙ f.second)
      | then-head-via-else-head+else-head-2+then-head-3 w ↦ w.if-head-3.true (at 2 (omega arith) ∙ f.third)
    ])

pub returns-then-head-4 : goal.returns-then-head-4
returns-then-head-4 c =
    let at : (i : ℕ) → i < 6 → get_or c.in_ok-head.head.now i 0 ≡ get_or c.args.bytes.now i 0 = λ i h. head_at c.args.bytes.now c.in_ok-head.head.now i c.in_ok-head.ensures.cases.0 h in
    parts_none c.args.bytes.now (λ f.
    elim c.then-head-4.branch [
      | then-head-4-via-then-head-4 w ↦ w.if-head-4.true (at 3 (omega arith) ∙ omega (arith, f.one))
      | then-head-4-via-else-head-4+then-head-5 w ↦ w.if-head-5.true (at 4 (omega arith) ∙ omega (arith, f.one))
    ])

pub returns-then-radix-lt4 : goal.returns-then-radix-lt4
returns-then-radix-lt4 c =
    let radix = head_at c.args.bytes.now c.in_ok-head.head.now 5 c.in_ok-head.ensures.cases.0 (omega arith) in
    parts_none c.args.bytes.now (λ f.
    elim c.then-radix-lt4.branch [
      | then-radix-lt4-via-then-radix-lt4 w ↦ omega (arith, radix, f.least, w.if-radix-lt4.true)
      | then-radix-lt4-via-else-radix-lt4+then-radix-gt64 w ↦ omega (arith, radix, f.most, w.if-radix-gt64.true)
      | then-radix-lt4-via-else-radix-lt4+else-radix-gt64+then-rows-from w ↦ w.if-rows-from.true (omega (arith, radix, f.size, w.from.ensures, c.in_ok-head.ensures.cases.2))
    ])

pub returns : goal.returns
returns c =
    let bytes = c.args.bytes.now in
    let at : (i : ℕ) → i < 6 → get_or c.in_ok-head.head.now i 0 ≡ get_or bytes i 0 = λ i h. head_at bytes c.in_ok-head.head.now i c.in_ok-head.ensures.cases.0 h in
    let high = at 3 (omega arith) in
    let low = at 4 (omega arith) in
    let radix = at 5 (omega arith) in
    let form : Form bytes = record {
      first = sym (at 0 (omega arith)) ∙ c.if-head.false;
      second = sym (at 1 (omega arith)) ∙ c.if-head-2.false;
      third = sym (at 2 (omega arith)) ∙ c.if-head-3.false;
      one = omega (arith, high, low, c.if-head-4.false, c.if-head-5.false);
      least = omega (arith, radix, c.if-radix-lt4.false);
      most = omega (arith, radix, c.if-radix-gt64.false);
      size = omega (arith, radix, c.if-rows-from.false, c.from.ensures, c.in_ok-head.ensures.cases.2);
    } in
    parts_some bytes c.in_ok-head.head.now c.in_ok-head.rows.now c.in_ok-head.ensures.cases.0 c.in_ok-head.ensures.cases.1 form
